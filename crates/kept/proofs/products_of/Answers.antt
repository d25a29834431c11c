use mathlib.Core.Path.{refl, ap}
use Prim.Native.Nat.{ℕ, ◌+◌, ◌*◌}
use native.Mathlib.Omega.{arith}
use Rattle.modular.proofs.Congruence.{eq≈, trans≈}
use Rattle.fields.proofs.Prime.{prime_field}
use Rattle.fields.specs.Prime.{prime}
use Rattle.kept.proofs.Multiplying.{none_made, made_more}
use Rattle.kept.proofs.products_of.Goals as goal

pub loop-i-init : goal.loop-i-init
loop-i-init c = none_made prime prime_field c.args.diagonal.now _ refl

pub loop-i-preserved : goal.loop-i-preserved
loop-i-preserved c =
    let D = c.args.diagonal.now in
    let i = c.loop-i.i in
    made_more prime prime_field D i c.loop-i.before c.loop-i.all c.loop-i.scaled c.lazy_product-all.result c.lazy_product_sum-scaled.result (omega arith) (omega (arith, c.requires.0)) (c.requires.1.at i)
    (trans≈ c.lazy_product-all.ensures (eq≈ (ap (λ (n : ℕ). c.loop-i.all * n) c.or_one-word.ensures)))
    (trans≈ c.lazy_product_sum-scaled.ensures (eq≈ (ap (λ (n : ℕ). c.loop-i.all + c.loop-i.scaled * n) c.or_one-word.ensures))) c.loop-i.invariant
