-- The seventh power by four products.
use mathlib.Core.Path.{sym}
use Prim.Native.Nat.{ℕ, ◌+◌, ◌*◌, ◌^◌}
use Rattle.modular.specs.Congruence.{◌≈⟨◌⟩◌}
use Rattle.modular.proofs.Congruence.{eq≈, trans≈, mul≈}
use Rattle.modular.proofs.Powers.{pow-add, pow-one}

-- a product of powers
times : {p a b : ℕ} (x m n r : ℕ) → a ≈⟨ p ⟩ x ^ m → b ≈⟨ p ⟩ x ^ n → r ≈⟨ p ⟩ a * b → r ≈⟨ p ⟩ x ^ (m + n)
times x m n r h k e = trans≈ e (trans≈ (mul≈ h k) (eq≈ (sym (pow-add x m n))))

-- the square, the fourth power from it, the cube, and the product of the last two
pub by_products : {p : ℕ} (x square fourth cube r : ℕ)
    → square ≈⟨ p ⟩ x * x → fourth ≈⟨ p ⟩ square * square → cube ≈⟨ p ⟩ square * x → r ≈⟨ p ⟩ cube * fourth → r ≈⟨ p ⟩ x ^ 7
by_products {p} x square fourth cube r e2 e4 e3 e7 =
    let one : x ≈⟨ p ⟩ x ^ 1 = eq≈ (sym (pow-one x)) in
    let two : square ≈⟨ p ⟩ x ^ 2 = times x 1 1 square one one e2 in
    times x 3 4 r (times x 2 1 cube two one e3) (times x 2 2 fourth two two e4) e7
