use mathlib.Core.Path.{ap, ◌∙◌}
use Prim.Native.Nat.{ℕ, ◌-◌, ◌/◌}
use native.Mathlib.Omega.{arith}
use Rattle.trees.specs.Shapes.{tree}
use Rattle.trees.proofs.Shapes.{regular}
use Rattle.trees.proofs.Counts.{power_some, inner_quotient}
use Rattle.trees.proofs.sizes.inner_count.Goals as goal

pub overflow_sub-result : goal.overflow_sub-result
overflow_sub-result c =
    let a = c.args in
    omega (arith, c.leaf_count.ensures, power_some a.d.arity a.d.height (omega (arith, c.requires.several)))

pub returns : goal.returns
returns c =
    let a = c.args in
    λ D C. ap (λ (w : ℕ). (w - 1) / (a.d.arity - 1)) c.leaf_count.ensures ∙ inner_quotient (tree a.d D C) (regular c.requires D C) a.d.height
