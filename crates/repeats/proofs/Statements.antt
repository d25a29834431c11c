-- A list repeats a number exactly if two different indices have the same.
use mathlib.Core.Path.{◌≡◌, refl}
use mathlib.Core.Bool.{Bool, true, false, ◌||◌, false≢true}
use mathlib.Core.List.{List, [], ◌∷◌}
use Prim.Native.Nat.{ℕ, zero, suc, ◌<◌}
use native.Mathlib.Omega.{arith}
use lib.Dec.{eqb}
use lib.ListN.{length, get_or}
use borrow.Author.Tests.{eqb-true, eq-eqb}
use Rattle.repeats.specs.Repeats.{member, repeats}
use Rattle.repeats.specs.Statements.{Twice, RepeatClaims}

or_left : (a b : Bool) → a ≡ true → (a || b) ≡ true
or_left a b e = rw e

or_right : (a b : Bool) → b ≡ true → (a || b) ≡ true
or_right true b e = refl
or_right false b e = e

-- a number of a list has an index there
at_index : (x : ℕ) (xs : List ℕ) → member x xs ≡ true → (i : ℕ) × (i < length xs) × (x ≡ get_or xs i 0)
unfolding member
at_index x [] e = absurd (false≢true e)
at_index x (y ∷ ys) e = go (eqb x y) refl e (at_index x ys)
  where
    go : (b : Bool) → eqb x y ≡ b → (b || member x ys) ≡ true → (member x ys ≡ true → (i : ℕ) × (i < length ys) × (x ≡ get_or ys i 0))
        → (i : ℕ) × (i < length (y ∷ ys)) × (x ≡ get_or (y ∷ ys) i 0)
    go true f e ih = (0, omega arith, eqb-true x y f)
    go false f e ih = let t = ih e in (suc t.0, omega (arith, t.1), t.2)

member_at : (x : ℕ) (xs : List ℕ) (i : ℕ) → i < length xs → x ≡ get_or xs i 0 → member x xs ≡ true
unfolding member
member_at x [] i h e = absurd (omega arith)
member_at x (y ∷ ys) zero h e = or_left (eqb x y) (member x ys) (eq-eqb x y e)
member_at x (y ∷ ys) (suc i) h e = or_right (eqb x y) (member x ys) (member_at x ys i (omega arith) e)

found : (xs : List ℕ) → repeats xs ≡ true → Twice xs
unfolding repeats
found [] e = absurd (false≢true e)
found (x ∷ xs) e = go (member x xs) refl e (found xs)
  where
    go : (b : Bool) → member x xs ≡ b → (b || repeats xs) ≡ true → (repeats xs ≡ true → Twice xs) → Twice (x ∷ xs)
    go true f e ih =
        let t = at_index x xs f in
        record { first = 0; second = suc t.0; apart = omega arith; inside = omega (arith, t.1); same = t.2 }
    go false f e ih =
        let t = ih e in
        record { first = suc t.first; second = suc t.second; apart = omega (arith, t.apart); inside = omega (arith, t.inside); same = t.same }

held : (xs : List ℕ) (i j : ℕ) → i < j → j < length xs → get_or xs i 0 ≡ get_or xs j 0 → repeats xs ≡ true
unfolding repeats
held [] i j a h e = absurd (omega arith)
held (x ∷ xs) zero zero a h e = absurd (omega arith)
held (x ∷ xs) zero (suc j) a h e = or_left (member x xs) (repeats xs) (member_at x xs j (omega arith) e)
held (x ∷ xs) (suc i) zero a h e = absurd (omega arith)
held (x ∷ xs) (suc i) (suc j) a h e = or_right (member x xs) (repeats xs) (held xs i j (omega arith) (omega arith) e)

pub repeat_claims : RepeatClaims
repeat_claims xs = (found xs, λ t. held xs t.first t.second t.apart t.inside t.same)
