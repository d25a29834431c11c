-- Lists of numbers, as the definitions of the tree use them.
use Rattle.std.specs.Prelude.{Bool, true, false, ◌&&◌, cond, List, [], ◌∷◌, ◌++◌, ℕ, zero, suc, ◌+◌, eqb, length, take, drop}
use Rattle.std.proofs.Math.Option.{Option, none, some}

-- n numbers from index i on
abbrev pub part : ℕ → ℕ → List ℕ → List ℕ
part i n xs = take n (drop i xs)

-- xs with v in place of the numbers from index i on
unfoldable pub put : List ℕ → ℕ → List ℕ → List ℕ
put xs i v = take i xs ++ (v ++ drop (i + length v) xs)

-- f 0, then f 1, up to f (n - 1)
unfoldable pub joined : (ℕ → List ℕ) → ℕ → List ℕ
joined f zero = []
joined f (suc n) = joined f n ++ f n

-- f 0 + f 1 + .. + f (n - 1)
unfoldable pub sum : (ℕ → ℕ) → ℕ → ℕ
sum f zero = 0
sum f (suc n) = sum f n + f n

-- two lists are the same, number by number
unfoldable pub same : List ℕ → List ℕ → Bool
same [] [] = true
same [] (y ∷ ys) = false
same (x ∷ xs) [] = false
same (x ∷ xs) (y ∷ ys) = eqb x y && same xs ys

-- the first where there is one, else the second
abbrev pub or_else : Option ℕ → Option ℕ → Option ℕ
or_else none b = b
or_else (some a) b = some a

-- the lowest number below n that the test accepts
unfoldable pub lowest : (ℕ → Bool) → ℕ → Option ℕ
lowest test zero = none
lowest test (suc n) = or_else (lowest test n) (cond (test n) (some n) none)
