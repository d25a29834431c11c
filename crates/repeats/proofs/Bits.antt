-- Bits of a number: one that is 0 is set by adding its power of 2. Then it is 1, the others are as they were, and the number still fits.
use mathlib.Core.Path.{◌≡◌, sym, ap, ◌∙◌}
use mathlib.Core.Logic.{◌≢◌}
use Prim.Native.Nat.{ℕ, suc, ◌+◌, ◌*◌, ◌-◌, ◌/◌, ◌%◌, ◌^◌, ◌<◌}
use native.Mathlib.Nat.{mul-one, mul_assoc, mul_comm, suc-mul, add-mul-div_left, add-mul-mod_self_left, mul-le-mul_right, mod-lt, pow-suc, two-pow-succ}
use native.Mathlib.Decide.{dec_lt}
use native.Mathlib.Omega.{arith}
use lib.Pow.{pow_pos, pow-add, shr_lt, shr-shr, split, high}

module _ (x c : ℕ) (e : x / 2 ^ c % 2 ≡ 0) where
  -- x by its bits above bit c and those below it
  high_bits : ℕ
  high_bits = x / 2 ^ c / 2

  low_bits : ℕ
  low_bits = x % 2 ^ c

  low_small : low_bits < 2 ^ c
  unfolding low_bits
  low_small = mod-lt x (pow_pos c)

  doubled : 2 ^ suc c ≡ 2 ^ c + 2 ^ c
  doubled = two-pow-succ c

  parts : x ≡ high_bits * 2 ^ suc c + low_bits
  unfolding high_bits low_bits
  parts =
      let a : ℕ = x / 2 ^ c in
      let even : a ≡ a / 2 * 2 = omega arith in
      let f : a / 2 * 2 ^ suc c ≡ a / 2 * 2 * 2 ^ c = ap (λ (y : ℕ). a / 2 * y) (pow-suc 2 c ∙ mul_comm (2 ^ c) 2) ∙ sym (mul_assoc (a / 2) 2 (2 ^ c)) in
      let g : a * 2 ^ c ≡ a / 2 * 2 * 2 ^ c = ap (λ (y : ℕ). y * 2 ^ c) even in
      omega (arith, split x c)

  -- the bits above are the same before and after
  high_before : x / 2 ^ suc c ≡ high_bits
  high_before = ap (λ (y : ℕ). y / 2 ^ suc c) parts ∙ high high_bits (suc c) {lo = low_bits} (omega (arith, low_small, doubled))

  high_after : (x + 2 ^ c) / 2 ^ suc c ≡ high_bits
  high_after =
      let f : x + 2 ^ c ≡ high_bits * 2 ^ suc c + (low_bits + 2 ^ c) = omega (arith, parts) in
      ap (λ (y : ℕ). y / 2 ^ suc c) f ∙ high high_bits (suc c) {lo = low_bits + 2 ^ c} (omega (arith, low_small, doubled))

  pub bit_set : (x + 2 ^ c) / 2 ^ c % 2 ≡ 1
  bit_set =
      let f : (x + 2 ^ c) / 2 ^ c ≡ x / 2 ^ c + 1 =
      ap (λ (y : ℕ). (x + y) / 2 ^ c) (sym (mul-one (2 ^ c))) ∙ add-mul-div_left x 1 {y = 2 ^ c} (pow_pos c) in
      omega arith

  pub bit_kept : (i : ℕ) → i ≢ c → (x + 2 ^ c) / 2 ^ i % 2 ≡ x / 2 ^ i % 2
  bit_kept i o = go (dec_lt i c)
    where
      go : Dec (i < c) → (x + 2 ^ c) / 2 ^ i % 2 ≡ x / 2 ^ i % 2
      -- below c an even number of 2^i is added
      go (yes b) =
          let t : ℕ = 2 ^ (c - suc i) in
          let f : c ≡ i + suc (c - suc i) = omega arith in
          let g : 2 ^ c ≡ 2 ^ i * (2 * t) = ap (λ (y : ℕ). 2 ^ y) f ∙ pow-add 2 i (suc (c - suc i)) ∙ ap (λ (y : ℕ). 2 ^ i * y) (pow-suc 2 (c - suc i) ∙ mul_comm t 2) in
          ap (λ (y : ℕ). (x + y) / 2 ^ i % 2) g
          ∙ ap (λ (y : ℕ). y % 2) (add-mul-div_left x (2 * t) {y = 2 ^ i} (pow_pos i))
          ∙ add-mul-mod_self_left (x / 2 ^ i) 2 t
      go (no b) =
          let f : i ≡ suc c + (i - suc c) = omega arith in
          let above : (y : ℕ) → y / 2 ^ i ≡ y / 2 ^ suc c / 2 ^ (i - suc c) = λ y. ap (λ (j : ℕ). y / 2 ^ j) f ∙ sym (shr-shr y (suc c) (i - suc c)) in
          ap (λ (y : ℕ). y % 2) (above (x + 2 ^ c) ∙ ap (λ (y : ℕ). y / 2 ^ (i - suc c)) (high_after ∙ sym high_before) ∙ sym (above x))

  pub bit_fits : (w : ℕ) → c < w → x < 2 ^ w → x + 2 ^ c < 2 ^ w
  bit_fits w b s =
      let f : w ≡ (w - suc c) + suc c = omega arith in
      let g : 2 ^ w ≡ 2 ^ (w - suc c) * 2 ^ suc c = ap (λ (y : ℕ). 2 ^ y) f ∙ pow-add 2 (w - suc c) (suc c) in
      let s₂ : x < 2 ^ (w - suc c + suc c) = rw f at s in
      let h : high_bits < 2 ^ (w - suc c) = rw high_before at (shr_lt {n = x} (w - suc c) (suc c) s₂) in
      omega (arith, mul-le-mul_right (2 ^ suc c) h, suc-mul high_bits (2 ^ suc c), parts, low_small, doubled)
