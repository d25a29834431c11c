-- Products and powers of the numbers of lists, place by place.
use Rattle.std.specs.Prelude.{List, [], ◌∷◌, map, ℕ, get_or, drop}
use Rattle.modular.specs.Arithmetic.{mul, pow}

-- as many as the first list has; what the second lacks counts as 0
unfoldable pub products : ℕ → List ℕ → List ℕ → List ℕ
products p [] ys = []
products p (x ∷ xs) ys = mul p x (get_or ys 0 0) ∷ products p xs (drop 1 ys)

-- each to the power e
unfoldable pub powers : ℕ → ℕ → List ℕ → List ℕ
powers p e xs = map (λ x. pow p x e) xs
