use Rattle.std.proofs.Common.{◌∙◌}
use Rattle.paths.proofs.Alike.{pointwise_same}
use Rattle.paths.proofs.collisions.collide.Goals as goal

pub returns-then-ne : goal.returns-then-ne
returns-then-ne c =
    let rows = simp pointwise_same at c.if-ne.ensures in
    rw (← rows) (c.eq.ensures ∙ pointwise_same _ _)

pub returns-else-ne : goal.returns-else-ne
returns-else-ne c =
    let rows = simp pointwise_same at c.if-ne.ensures in
    rw (← rows) c.if-ne.false
