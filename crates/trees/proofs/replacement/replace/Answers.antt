use Rattle.merkle.specs.Replacement.{replace}
use Rattle.trees.proofs.replacement.replace.Goals as goal

pub returns : goal.returns
unfolding replace
returns c = (c.replace_from.ensures.0, c.replace_from.ensures.1)
