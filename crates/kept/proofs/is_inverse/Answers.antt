use mathlib.Core.Path.{sym, ap, ◌∙◌}
use Prim.Native.Nat.{ℕ}
use native.Mathlib.Omega.{arith}
use lib.Dec.{eqb}
use borrow.Author.Tests.{le-ltb}
use Rattle.kept.proofs.Tested.{no_word, of_zero, by_product}
use Rattle.kept.proofs.is_inverse.Goals as goal

pub returns-then-d-eq0 : goal.returns-then-d-eq0
returns-then-d-eq0 c = of_zero c.args.d c.args.e c.if-d-eq0.true

pub returns-then-e-order : goal.returns-then-e-order
returns-then-e-order c =
    ap (λ (n : ℕ). eqb n 1) c.product.ensures
    ∙ by_product c.args.d c.args.e c.if-d-eq0.false c.requires (omega (arith, c.order.ensures, c.if-e-order.true))

pub returns-else-e-order : goal.returns-else-e-order
returns-else-e-order c =
    le-ltb _ _ c.if-e-order.false ∙ sym (no_word c.args.d c.args.e (omega (arith, c.order.ensures, c.if-e-order.false)))
