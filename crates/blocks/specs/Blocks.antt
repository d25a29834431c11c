-- The blocks of a state (Rules 3.1): in code it is an array of them, and here the list of its numbers.
use Rattle.std.specs.Prelude.{List, [], ◌∷◌, ◌++◌, ℕ, zero, suc, get_or}

-- The four numbers of a block.
abbrev pub four : List ℕ → List ℕ
four b = get_or b 0 0 ∷ get_or b 1 0 ∷ get_or b 2 0 ∷ get_or b 3 0 ∷ []

abbrev pub flat_from : ℕ → ℕ → List (List ℕ) → List ℕ
flat_from i zero bs = []
flat_from i (suc n) bs = four (get_or bs i []) ++ flat_from (suc i) n bs

-- The numbers of n blocks.
abbrev pub flat : ℕ → List (List ℕ) → List ℕ
flat n bs = flat_from 0 n bs
