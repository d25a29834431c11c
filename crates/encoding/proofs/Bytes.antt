-- The number of eight bytes, and the low bytes of a number.
use mathlib.Core.Path.{◌≡◌, refl, ap, ◌∙◌}
use mathlib.Core.List.{List, [], ◌∷◌}
use Prim.Native.Nat.{ℕ, ◌*◌, ◌%◌, ◌^◌, ◌≤◌}
use native.Mathlib.Nat.{mod-eq_of_lt, one-mul, pow-le-pow_right}
use native.Mathlib.Omega.{arith}
use lib.Dec.{lit<}
use lib.ListN.{take, get_or}
use Rattle.modular.proofs.Powers.{pow-mul}
use Rattle.std.specs.Int.{w64, from_le_bytes}
use Rattle.octets.specs.Numbers.{little_endian}

pub eight_bytes : (xs : List ℕ)
    → from_le_bytes w64 (get_or xs 0 0 ∷ get_or xs 1 0 ∷ get_or xs 2 0 ∷ get_or xs 3 0 ∷ get_or xs 4 0 ∷ get_or xs 5 0 ∷ get_or xs 6 0 ∷ get_or xs 7 0 ∷ []) ≡ little_endian (take 8 xs)
unfolding little_endian
eight_bytes [] = refl
eight_bytes (a ∷ []) = omega arith
eight_bytes (a ∷ b ∷ []) = omega arith
eight_bytes (a ∷ b ∷ c ∷ []) = omega arith
eight_bytes (a ∷ b ∷ c ∷ d ∷ []) = omega arith
eight_bytes (a ∷ b ∷ c ∷ d ∷ e ∷ []) = omega arith
eight_bytes (a ∷ b ∷ c ∷ d ∷ e ∷ f ∷ []) = omega arith
eight_bytes (a ∷ b ∷ c ∷ d ∷ e ∷ f ∷ g ∷ []) = omega arith
eight_bytes (a ∷ b ∷ c ∷ d ∷ e ∷ f ∷ g ∷ h ∷ xs) = omega arith

-- 256^n by a shift
pub shifted : (n : ℕ) → n ≤ 7 → 1 * 2 ^ (8 * n) % 18446744073709551616 ≡ 256 ^ n
shifted n h =
    let few : 256 ^ n ≤ 256 ^ 7 = pow-le-pow_right (lit< tt) h in
    ap (λ (a : ℕ). a % 18446744073709551616) (one-mul (2 ^ (8 * n)) ∙ pow-mul 2 8 n) ∙ mod-eq_of_lt (omega arith)
