use Rattle.std.proofs.Common.{◌≡◌, ℕ, ◌/◌, ◌%◌, ◌^◌, sym, ap, ◌∙◌, div-one, arith}
use native.Mathlib.Nat.{pow-zero}
use Rattle.modular.specs.Arithmetic.{pow}
use Rattle.modular.specs.Goldilocks.{p}
use Rattle.modular.proofs.Congruence.{eq≈}
use Rattle.modular.proofs.Powers.{pow-one}
use Rattle.modular.proofs.Bits.{highest_bit, zero_bit, one_bit}
use Rattle.field.proofs.power.Goals as goal

pub returns-then-exponent-eq0 : goal.returns-then-exponent-eq0
unfolding pow
returns-then-exponent-eq0 c = sym (ap (λ (x : ℕ). c.args.base ^ x % p) c.if-exponent-eq0.true ∙ ap (λ (x : ℕ). x % p) (pow-zero c.args.base))

pub loop-i-init : goal.loop-i-init
loop-i-init c =
    let a = c.args in
    eq≈ (sym (ap (λ (x : ℕ). a.base ^ x) (highest_bit a.exponent c.if-exponent-eq0.false c.ranges.exponent.fits).one ∙ pow-one a.base))

pub loop-i-preserved-then-exponent-i-eq1 : goal.loop-i-preserved-then-exponent-i-eq1
loop-i-preserved-then-exponent-i-eq1 c =
    let a = c.args in
    one_bit a.base a.exponent c.loop-i.i c.loop-i.r c.product-r.result (omega arith) c.loop-i.invariant c.product-r.ensures c.product-r-then-exponent-i-eq1.result c.product-r-then-exponent-i-eq1.ensures c.if-exponent-i-eq1.true

pub loop-i-preserved : goal.loop-i-preserved
loop-i-preserved c =
    let a = c.args in
    zero_bit a.base a.exponent c.loop-i.i c.loop-i.r c.product-r.result (omega arith) c.loop-i.invariant c.product-r.ensures c.if-exponent-i-eq1.false

pub returns : goal.returns
unfolding pow
returns c =
    let a = c.args in
    let z : c.loop-i.i ≡ 0 = omega arith in
    c.residue.ensures ∙ c.loop-i.invariant.same
    ∙ ap (λ (x : ℕ). a.base ^ (a.exponent / 2 ^ x) % p) z ∙ ap (λ (x : ℕ). a.base ^ x % p) (div-one a.exponent)
