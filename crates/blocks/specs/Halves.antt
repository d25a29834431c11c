-- A number of 64 bits by its halves: sums of several halves still fit 64 bits, so that a word of M_E needs one reduction only.
use Rattle.std.specs.Prelude.{List, [], ◌∷◌, map, ℕ, zero, suc, ◌+◌, ◌*◌, ◌<◌, ◌≤◌, get_or, drop}
use Rattle.poseidon2.specs.Layers.{dot, m4_rows}

-- 2 ^ 32
abbrev pub half : ℕ
half = 4294967296

-- M4 with no remainder taken
unfoldable pub exact_m4 : List ℕ → List ℕ
exact_m4 xs = map (λ row. dot row xs) m4_rows

-- blocks added with no remainder taken
abbrev pub plus : List ℕ → List ℕ → List ℕ
plus a b = (get_or a 0 0 + get_or b 0 0) ∷ (get_or a 1 0 + get_or b 1 0) ∷ (get_or a 2 0 + get_or b 2 0) ∷ (get_or a 3 0 + get_or b 3 0) ∷ []

-- the first n blocks added so
abbrev pub total : ℕ → List (List ℕ) → List ℕ
total zero bs = 0 ∷ 0 ∷ 0 ∷ 0 ∷ []
total (suc n) bs = plus (total n bs) (get_or bs n [])

-- the numbers that high and low halves make
abbrev pub joins : List ℕ → List ℕ → List ℕ
joins [] ls = []
joins (h ∷ hs) ls = (h * half + get_or ls 0 0) ∷ joins hs (drop 1 ls)

-- each of a block is at most n
pub record Within (n : ℕ) (b : List ℕ) : Type 0 where
  pub at0 : get_or b 0 0 ≤ n
  pub at1 : get_or b 1 0 ≤ n
  pub at2 : get_or b 2 0 ≤ n
  pub at3 : get_or b 3 0 ≤ n

-- each of n blocks is
pub record AllWithin (m n : ℕ) (bs : List (List ℕ)) : Type 0 where
  pub at : (i : ℕ) → i < n → Within m (get_or bs i [])
