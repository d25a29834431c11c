use Rattle.std.proofs.Common.{◌∙◌}
use Rattle.paths.proofs.Alike.{pointwise_same}
use Rattle.paths.proofs.comparison.same_words.Goals as goal

pub returns : goal.returns
returns c = c.eq.ensures ∙ pointwise_same c.args.a.now c.args.b.now
