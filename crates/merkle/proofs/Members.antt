-- The numbers of a list, of the list of a function's values, and of a list with each number once.
use mathlib.Core.Path.{◌≡◌, refl, sym, ap, ◌∙◌}
use mathlib.Core.Logic.{◌⊎◌, inl, inr}
use mathlib.Core.Bool.{Bool, true, false, cond, false≢true}
use mathlib.Core.List.{List, [], ◌∷◌, map}
use Prim.Native.Nat.{ℕ, suc, ◌≤◌, ◌<◌}
use native.Mathlib.Decide.{ℕ_discrete}
use native.Mathlib.Omega.{arith}
use lib.ListN.{length}
use Rattle.repeats.specs.Repeats.{member}
use Rattle.repeats.proofs.Members.{member_none, member_first, member_other}
use Rattle.merkle.specs.Lists.{sum}
use Rattle.merkle.specs.Above.{once}
use Rattle.merkle.proofs.Lists.{sum_same, sum-zero, sum-fewer}

-- ---- numbers of a list

pub not_member : (x : ℕ) → member x [] ≡ true → ⊥
not_member x e = false≢true (sym (member_none x) ∙ e)

pub member_behind : (x y : ℕ) (ys : List ℕ) → member x ys ≡ true → member x (y ∷ ys) ≡ true
member_behind x y ys e = go (ℕ_discrete x y)
  where
    go : Dec (x ≡ y) → member x (y ∷ ys) ≡ true
    go (yes a) = member_first x y ys a
    go (no a) = member_other x y ys a ∙ e

pub member_cases : (x y : ℕ) (ys : List ℕ) → member x (y ∷ ys) ≡ true → (x ≡ y) ⊎ (member x ys ≡ true)
member_cases x y ys e = go (ℕ_discrete x y)
  where
    go : Dec (x ≡ y) → (x ≡ y) ⊎ (member x ys ≡ true)
    go (yes a) = inl a
    go (no a) = inr (sym (member_other x y ys a) ∙ e)

pub member_single : (x y : ℕ) → member x (y ∷ []) ≡ true → x ≡ y
member_single x y e = go (member_cases x y [] e)
  where
    go : (x ≡ y) ⊎ (member x [] ≡ true) → x ≡ y
    go (inl a) = a
    go (inr a) = absurd (not_member x a)

-- ---- the values of a function

pub member_map : (f : ℕ → ℕ) (x : ℕ) (xs : List ℕ) → member x xs ≡ true → member (f x) (map f xs) ≡ true
member_map f x [] e = absurd (not_member x e)
member_map f x (y ∷ ys) e = go (member_cases x y ys e) (member_map f x ys)
  where
    go : (x ≡ y) ⊎ (member x ys ≡ true) → (member x ys ≡ true → member (f x) (map f ys) ≡ true) → member (f x) (f y ∷ map f ys) ≡ true
    go (inl a) ih = member_first (f x) (f y) (map f ys) (ap f a)
    go (inr a) ih = member_behind (f x) (f y) (map f ys) (ih a)

pub map-member : (f : ℕ → ℕ) (y : ℕ) (xs : List ℕ) → member y (map f xs) ≡ true → (x : ℕ) × (member x xs ≡ true) × (y ≡ f x)
map-member f y [] e = absurd (not_member y e)
map-member f y (x ∷ xs) e = go (member_cases y (f x) (map f xs) e) (map-member f y xs)
  where
    go : (y ≡ f x) ⊎ (member y (map f xs) ≡ true) → (member y (map f xs) ≡ true → (z : ℕ) × (member z xs ≡ true) × (y ≡ f z))
        → (z : ℕ) × (member z (x ∷ xs) ≡ true) × (y ≡ f z)
    go (inl a) ih = (x, member_first x x xs refl, a)
    go (inr a) ih = let r = ih a in (r.0, member_behind r.0 x xs r.1, r.2)

-- ---- each number once

-- a number that stands twice is there once
twice_once : once (0 ∷ 0 ∷ []) ≡ 0 ∷ []
unfolding once member
twice_once = refl

-- a number that stands further on is none more
member_again : (y x : ℕ) (xs : List ℕ) → member x xs ≡ true → member y (x ∷ xs) ≡ member y xs
member_again y x xs e = go (ℕ_discrete y x)
  where
    go : Dec (y ≡ x) → member y (x ∷ xs) ≡ member y xs
    go (yes a) = member_first y x xs a ∙ sym (ap (λ (z : ℕ). member z xs) a ∙ e)
    go (no a) = member_other y x xs a

member_alike : (y x : ℕ) (xs ys : List ℕ) → member y xs ≡ member y ys → member y (x ∷ xs) ≡ member y (x ∷ ys)
unfolding member
member_alike y x xs ys e = rw e

pub member_once : (y : ℕ) (xs : List ℕ) → member y (once xs) ≡ member y xs
unfolding once
member_once y [] = refl
member_once y (x ∷ xs) = go (member x xs) refl (member_once y xs)
  where
    go : (t : Bool) → member x xs ≡ t → member y (once xs) ≡ member y xs → member y (cond t (once xs) (x ∷ once xs)) ≡ member y (x ∷ xs)
    go true e ih = ih ∙ sym (member_again y x xs e)
    go false e ih = member_alike y x (once xs) xs ih

pub length-once : (xs : List ℕ) → length (once xs) ≤ length xs
unfolding once
length-once [] = omega arith
length-once (x ∷ xs) = go (member x xs) (length-once xs)
  where
    go : (t : Bool) → length (once xs) ≤ length xs → length (cond t (once xs) (x ∷ once xs)) ≤ suc (length xs)
    go true b = omega arith
    go false b = omega arith

-- so many as there are numbers below n that are numbers of the list
pub once_count : (n : ℕ) (xs : List ℕ) → ((x : ℕ) → member x xs ≡ true → x < n) → length (once xs) ≡ sum (λ i. cond (member i xs) 1 0) n
unfolding once
once_count n [] b = sym (sum-zero (λ i. cond (member i []) 1 0) n (λ i c. ap (λ (t : Bool). cond t 1 0) (member_none i)))
once_count n (x ∷ xs) b = go (member x xs) refl (once_count n xs (λ y e. b y (member_behind y x xs e)))
  where
    one : Bool → ℕ
    one t = cond t 1 0

    go : (t : Bool) → member x xs ≡ t → length (once xs) ≡ sum (λ i. cond (member i xs) 1 0) n
        → length (cond t (once xs) (x ∷ once xs)) ≡ sum (λ i. cond (member i (x ∷ xs)) 1 0) n
    go true e ih = ih ∙ sum_same (λ i. cond (member i xs) 1 0) (λ i. cond (member i (x ∷ xs)) 1 0) n (λ i c. ap one (sym (member_again i x xs e)))
    go false e ih =
        ap suc ih
        ∙ sym (sum-fewer (λ i. cond (member i (x ∷ xs)) 1 0) (λ i. cond (member i xs) 1 0) x n (b x (member_first x x xs refl))
        (λ i c d. ap one (member_other i x xs d)) (ap one (member_first x x xs refl) ∙ sym (ap (λ (t : Bool). suc (one t)) e)))
