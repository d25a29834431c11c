use Rattle.std.proofs.Common.{List, ℕ, take, ap, ◌∙◌}
use Rattle.merkle.specs.Lists.{same}
use Rattle.merkle.specs.Openings.{accepts}
use Rattle.paths.proofs.Alike.{pointwise_same}
use Rattle.paths.proofs.accepts.Goals as goal

pub returns : goal.returns
unfolding accepts
returns c =
    let root = c.args.root.now in
    c.eq.ensures ∙ pointwise_same _ root
    ∙ ap (λ (xs : List ℕ). same xs root) (ap (λ (n : ℕ). take n c.path_node-own.result) c.requires.1 ∙ c.path_node-own.ensures)
