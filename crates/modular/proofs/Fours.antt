-- Four numbers of a list from a place on, as code reads them.
use mathlib.Core.Path.{◌≡◌, ap}
use mathlib.Core.List.{List, [], ◌∷◌, ◌++◌}
use Prim.Native.Nat.{ℕ, suc, ◌+◌, ◌≤◌}
use native.Mathlib.Omega.{arith}
use lib.ListN.{length, get_or, take, drop}
use lib.Seq.{drop-cons}

abbrev pub four_at : List ℕ → ℕ → List ℕ
four_at xs i = get_or xs i 0 ∷ get_or xs (i + 1) 0 ∷ get_or xs (i + 2) 0 ∷ get_or xs (i + 3) 0 ∷ []

-- they are the next four, and others follow them
pub from_four : (xs : List ℕ) (i : ℕ) → i + 4 ≤ length xs → drop i xs ≡ four_at xs i ++ drop (i + 4) xs
from_four xs i h =
    let one : i + 1 ≡ suc i = omega arith in
    let two : i + 2 ≡ suc (suc i) = omega arith in
    let three : i + 3 ≡ suc (suc (suc i)) = omega arith in
    let four : i + 4 ≡ suc (suc (suc (suc i))) = omega arith in
    rw (one, two, three, four, drop-cons xs i 0 (omega arith), drop-cons xs (suc i) 0 (omega arith), drop-cons xs (suc (suc i)) 0 (omega arith), drop-cons xs (suc (suc (suc i))) 0 (omega arith))

pub four_at_lem : (xs : List ℕ) (i : ℕ) → i + 4 ≤ length xs → take 4 (drop i xs) ≡ four_at xs i
four_at_lem xs i h = ap (take 4) (from_four xs i h)
