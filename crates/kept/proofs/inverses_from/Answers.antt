use mathlib.Core.Path.{◌≡◌, ap, subst}
use Prim.Native.Nat.{ℕ, ◌+◌, ◌*◌, ◌-◌}
use native.Mathlib.Omega.{arith}
use Rattle.fields.specs.Prime.{prime}
use Rattle.fields.proofs.Prime.{prime_field}
use Rattle.modular.proofs.Congruence.{eq≈, trans≈}
use Rattle.kept.proofs.Inverting.{Made, none_made, to_one, one_more_lem, all_made}
use Rattle.kept.proofs.inverses_from.Goals as goal
use Rattle.kept.proofs.inverses_from.Goals.{In-loop-i}

pub loop-i-init : goal.loop-i-init
loop-i-init c = none_made prime prime_field c.args.diagonal.now c.args.rest c.requires.3

-- the place before those that are made
made : (c : In-loop-i) → Made prime prime_field c.args.diagonal.now (c.loop-i.i - 1 + 1) c.loop-i.inverses c.loop-i.left
made c =
    let e : c.loop-i.i ≡ c.loop-i.i - 1 + 1 = omega arith in
    subst (λ (n : ℕ). Made prime prime_field c.args.diagonal.now n c.loop-i.inverses c.loop-i.left) e c.loop-i.invariant

pub inverse_from-requires : goal.inverse_from-requires
inverse_from-requires c =
    let t = (goal.at.inverse_from-requires c).In-loop-i in
    (c.requires.1.at (c.loop-i.i - 1), to_one prime prime_field c.args.diagonal.now (c.loop-i.i - 1) c.loop-i.inverses c.loop-i.left _ (omega arith) (made t) (c.requires.2.at (c.loop-i.i - 1) (omega arith)))

pub loop-i-preserved : goal.loop-i-preserved
loop-i-preserved c =
    let t = (goal.at.loop-i-preserved c).In-loop-i in
    let D = c.args.diagonal.now in
    one_more_lem prime prime_field D (c.loop-i.i - 1) c.loop-i.inverses c.loop-i.left 0 (omega arith) (made t) c.inverse_from.result c.lazy_product-left.result (omega (arith, c.requires.0)) c.inverse_from.ensures (trans≈ c.lazy_product-left.ensures (eq≈ (ap (λ (n : ℕ). c.loop-i.left * n) c.or_one.ensures)))

pub returns : goal.returns
returns c =
    let D = c.args.diagonal.now in
    let e : c.loop-i.i ≡ 0 = omega arith in
    all_made prime prime_field D c.loop-i.inverses c.loop-i.left c.requires.0 (subst (λ (n : ℕ). Made prime prime_field D n c.loop-i.inverses c.loop-i.left) e c.loop-i.invariant)
