-- A product of two 64-bit numbers by their halves.
use mathlib.Core.Path.{◌≡◌, sym, ap₂, ◌∙◌}
use mathlib.Core.List.{[], ◌∷◌}
use Prim.Native.Nat.{ℕ, ◌+◌, ◌*◌, ◌/◌, ◌%◌, ◌≤◌}
use native.Mathlib.Nat.{div-add-mod, mul-le-mul}
use native.Mathlib.Omega.{arith}
use Rattle.modular.proofs.Ring.{var, num, ◌⊕◌, ◌⊗◌, exact?, ringℕ}

-- 2 ^ 64
abbrev pub W : ℕ
W = 18446744073709551616

-- 2 ^ 32
abbrev pub H : ℕ
H = 4294967296

-- the largest product of two halves
abbrev pub M : ℕ
M = 18446744065119617025

pub half_product : (a b : ℕ) → a ≤ 4294967295 → b ≤ 4294967295 → a * b ≤ M
half_product a b h k = mul-le-mul h k

expand : (a0 a1 b0 b1 : ℕ) → (H * a1 + a0) * (H * b1 + b0) ≡ a0 * b0 + H * (a0 * b1) + H * (a1 * b0) + H * (H * (a1 * b1))
unfolding exact?
expand a0 a1 b0 b1 =
    ringℕ (a0 ∷ a1 ∷ b0 ∷ b1 ∷ []) ((num H ⊗ var 1 ⊕ var 0) ⊗ (num H ⊗ var 3 ⊕ var 2))
    (var 0 ⊗ var 2 ⊕ num H ⊗ (var 0 ⊗ var 3) ⊕ num H ⊗ (var 1 ⊗ var 2) ⊕ num H ⊗ (num H ⊗ (var 1 ⊗ var 3))) tt

module _ (a b x00 x01 x10 x11 : ℕ) (e00 : x00 ≡ a % H * (b % H)) (e01 : x01 ≡ a % H * (b / H)) (e10 : x10 ≡ a / H * (b % H)) (e11 : x11 ≡ a / H * (b / H))
    (b00 : x00 ≤ M) (b01 : x01 ≤ M) (b10 : x10 ≤ M) where
  columns : a * b ≡ x00 + H * x01 + H * x10 + H * (H * x11)
  columns =
      ap₂ (λ (x y : ℕ). x * y) (sym (div-add-mod a H)) (sym (div-add-mod b H))
      ∙ rw (e00, e01, e10, e11) (expand (a % H) (a / H) (b % H) (b / H))

  pub high_word : x11 + (x10 + x00 / H) / H + ((x10 + x00 / H) % H + x01) / H ≡ a * b / W
  high_word = of (a * b) columns
    where
      of : (n : ℕ) → n ≡ x00 + H * x01 + H * x10 + H * (H * x11) → x11 + (x10 + x00 / H) / H + ((x10 + x00 / H) % H + x01) / H ≡ n / W
      of n e = omega arith

  pub low_word : ((x10 + x01) % W % H * H + x00) % W ≡ a * b % W
  low_word = of (a * b) columns
    where
      of : (n : ℕ) → n ≡ x00 + H * x01 + H * x10 + H * (H * x11) → ((x10 + x01) % W % H * H + x00) % W ≡ n % W
      of n e = omega arith
