-- The products by which all inverses are made with one inversion. A 0 is left out of them.
use Rattle.std.specs.Prelude.{◌≡◌, cond, List, [], ◌∷◌, ℕ, ◌+◌, ◌*◌, ◌<◌, eqb, length, get_or, take}
use Rattle.modular.specs.Congruence.{◌≈⟨◌⟩◌}
use Rattle.poseidon2.specs.Layers.{sum}
use Rattle.poseidon2.specs.Inverse.{inverses, zeros}
use Rattle.kept.specs.declared.Products.{Products}

unfoldable pub or_one : ℕ → ℕ
or_one d = cond (eqb d 0) 1 d

-- The product of the words that are not 0.
unfoldable pub product_of : List ℕ → ℕ
product_of [] = 1
product_of (d ∷ D) = or_one d * product_of D

-- Before each of the first n words the product of those before it.
pub record Before (p : ℕ) (D : List ℕ) (n : ℕ) (before : List ℕ) : Type 0 where
  pub long : length before ≡ 12
  pub at : (i : ℕ) → i < n → get_or before i 0 ≈⟨ p ⟩ product_of (take i D)

-- These, the product of the first n, and, if none of them is 0, that product 1 + Σ 1/D_i times.
pub record ProductsOf (p : ℕ) (D : List ℕ) (n : ℕ) (r : Products) : Type 0 where
  pub before : Before p D n r.before
  pub all : r.all ≈⟨ p ⟩ product_of (take n D)
  pub scaled : zeros (take n D) ≡ 0 → r.scaled ≈⟨ p ⟩ product_of (take n D) * (1 + sum (inverses p (take n D)))
