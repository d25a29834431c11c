-- A power from the exponent's highest one bit down: the exponent's first bits are its quotients by powers of 2.
use mathlib.Core.Path.{◌≡◌, sym, ap, ◌∙◌}
use mathlib.Core.Logic.{◌≢◌}
use Prim.Native.Nat.{ℕ, suc, ◌+◌, ◌*◌, ◌-◌, ◌/◌, ◌%◌, ◌^◌, ◌≤◌, ◌<◌}
use native.Mathlib.Nat.{div-div-eq-div-mul, div-eq_of_lt-le, pow-suc}
use native.Mathlib.Omega.{arith}
use lib.Count.{count_leading_zeros, leading_top}
use Rattle.modular.specs.Congruence.{◌≈⟨◌⟩◌}
use Rattle.modular.proofs.Congruence.{eq≈, trans≈, mul≈, refl≈}
use Rattle.modular.proofs.Powers.{pow-add}

-- the highest one bit of a number that is not 0: above it there are the leading zeros, and from it on the number is 1
pub record HighestBit (e : ℕ) : Type 0 where
  pub zeros : count_leading_zeros 64 e ≤ 63
  pub one : e / 2 ^ (63 - count_leading_zeros 64 e) ≡ 1

pub highest_bit : (e : ℕ) → e ≢ 0 → e < 2 ^ 64 → HighestBit e
highest_bit e some fits = of (leading_top 64 e (omega arith) fits)
  where
    of : (j : ℕ) × (count_leading_zeros 64 e + suc j ≡ 64) × (2 ^ j ≤ e) × (e < 2 ^ suc j) → HighestBit e
    of (j, s, l, u) =
        let f : 63 - count_leading_zeros 64 e ≡ j = omega arith in
        record {
          zeros = omega arith;
          one = ap (λ (x : ℕ). e / 2 ^ x) f ∙ div-eq_of_lt-le (2 ^ j) (omega arith) (omega (arith, rw pow-suc at u));
        }

-- one bit more of the exponent
next_bit : (e i : ℕ) → 0 < i → e / 2 ^ (i - 1) / 2 ≡ e / 2 ^ i
next_bit e i h =
    let s : suc (i - 1) ≡ i = omega arith in
    div-div-eq-div-mul e (2 ^ (i - 1)) 2 ∙ ap (λ (x : ℕ). e / x) (sym (pow-suc 2 (i - 1)) ∙ ap (λ (x : ℕ). 2 ^ x) s)

module _ {p : ℕ} (b e i r s : ℕ) (h : 0 < i) (sofar : r ≈⟨ p ⟩ b ^ (e / 2 ^ i)) (square : s ≈⟨ p ⟩ r * r) where
  squared : s ≈⟨ p ⟩ b ^ (e / 2 ^ i + e / 2 ^ i)
  squared = trans≈ square (trans≈ (mul≈ sofar sofar) (eq≈ (sym (pow-add b (e / 2 ^ i) (e / 2 ^ i)))))

  -- a bit that is 0 takes a squaring
  pub zero_bit : e / 2 ^ (i - 1) % 2 ≢ 1 → s ≈⟨ p ⟩ b ^ (e / 2 ^ (i - 1))
  zero_bit o =
      let f : e / 2 ^ i + e / 2 ^ i ≡ e / 2 ^ (i - 1) = omega (arith, next_bit e i h) in
      trans≈ squared (eq≈ (ap (λ (x : ℕ). b ^ x) f))

  -- a bit that is 1 takes a factor more
  pub one_bit : (u : ℕ) → u ≈⟨ p ⟩ s * b → e / 2 ^ (i - 1) % 2 ≡ 1 → u ≈⟨ p ⟩ b ^ (e / 2 ^ (i - 1))
  one_bit u factor o =
      let f : suc (e / 2 ^ i + e / 2 ^ i) ≡ e / 2 ^ (i - 1) = omega (arith, next_bit e i h) in
      trans≈ factor (trans≈ (mul≈ squared (refl≈ {a = b})) (eq≈ (sym (pow-suc b (e / 2 ^ i + e / 2 ^ i)) ∙ ap (λ (x : ℕ). b ^ x) f)))
