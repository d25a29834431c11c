-- What a set keeps for the inverse permutation (Rules 2.9): the inverses of the words of D, and that of 1 plus their sum.
use Rattle.std.specs.Prelude.{Bool, ◌&&◌, List, ◌++◌, ℕ, ◌-◌, eqb, length, replicate}
use Rattle.poseidon2.specs.Inverse.{inverses, total_inverse}
use Rattle.merkle.specs.Lists.{same}
use Rattle.kept.specs.declared.Kept.{Kept}

-- A list in n places, with 0 beyond its end.
unfoldable pub padded : ℕ → List ℕ → List ℕ
padded n xs = xs ++ replicate (n - length xs) 0

-- What is kept for a D.
unfoldable pub kept_of : ℕ → List ℕ → Kept
kept_of p D = record { inverses = padded 12 (inverses p D); total_inverse = total_inverse p D }

-- Whether these are the inverses of the words of D, one for each, and the inverse of 1 plus their sum.
unfoldable pub fits : ℕ → List ℕ → List ℕ → ℕ → Bool
fits p D es k = same es (inverses p D) && eqb k (total_inverse p D)
