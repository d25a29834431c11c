-- The constants and D by their places, as code reads them.
use mathlib.Core.Path.{◌≡◌, refl, sym, ap, ap₂, ◌∙◌}
use mathlib.Core.List.{List, [], ◌∷◌}
use Prim.Native.Nat.{ℕ, suc, ◌+◌, ◌*◌, ◌%◌}
use native.Mathlib.Nat.{add-zero}
use native.Mathlib.Numerals.{add-one}
use lib.ListN.{length, get_or, take, drop}
use lib.Seq.{drop-drop, get_or-drop}
use Rattle.modular.specs.Arithmetic.{add}
use Rattle.poseidon2.specs.Layers.{add_lists, sum, plus_multiples, internal}
use Rattle.poseidon2.specs.Rounds.{add_constants, full_round, partial_round, full_rounds, partial_rounds}
use Rattle.poseidon2.proofs.Words.{cons_eq}
use Rattle.poseidon2.proofs.Internal.{internal_take}

-- what stands at place i is the first of the list from i on
pub first_at : (cs : List ℕ) (i : ℕ) → get_or (drop i cs) 0 0 ≡ get_or cs i 0
first_at cs i = get_or-drop i cs 0 0 ∙ ap (λ (n : ℕ). get_or cs n 0) (add-zero i)

pub rest_at : (cs : List ℕ) (i : ℕ) → drop 1 (drop i cs) ≡ drop (suc i) cs
rest_at cs i = drop-drop 1 i cs ∙ ap (λ (n : ℕ). drop n cs) (add-one i)

-- the constants from place i on, added
abbrev pub add_at : ℕ → List ℕ → ℕ → List ℕ → List ℕ
add_at p cs i [] = []
add_at p cs i (x ∷ xs) = add p x (get_or cs i 0) ∷ add_at p cs (suc i) xs

pub add_at_lem : (p : ℕ) (cs : List ℕ) (i : ℕ) (xs : List ℕ) → add_lists p xs (drop i cs) ≡ add_at p cs i xs
unfolding add_lists
add_at_lem p cs i [] = refl
add_at_lem p cs i (x ∷ xs) = cons_eq (ap (add p x) (first_at cs i)) (ap (add_lists p xs) (rest_at cs i) ∙ add_at_lem p cs (suc i) xs)

pub add_lists-take : (p : ℕ) (xs cs : List ℕ) → add_lists p xs (take (length xs) cs) ≡ add_lists p xs cs
unfolding add_lists
add_lists-take p [] cs = refl
add_lists-take p (x ∷ xs) [] = refl
add_lists-take p (x ∷ xs) (c ∷ cs) = cons_eq refl (add_lists-take p xs cs)

-- the t constants of a round that starts at place i
pub add_constants-at : (p t : ℕ) (cs : List ℕ) (i : ℕ) (xs : List ℕ) → length xs ≡ t → add_constants p (take t (drop i cs)) xs ≡ add_at p cs i xs
unfolding add_constants
add_constants-at p t cs i xs l = ap (λ (n : ℕ). add_lists p xs (take n (drop i cs))) (sym l) ∙ add_lists-take p xs (drop i cs) ∙ add_at_lem p cs i xs

-- s plus D from place i on times the words
abbrev pub plus_multiples_at : ℕ → ℕ → List ℕ → ℕ → List ℕ → List ℕ
plus_multiples_at p s D i [] = []
plus_multiples_at p s D i (x ∷ xs) = (s + get_or D i 0 * x) % p ∷ plus_multiples_at p s D (suc i) xs

pub plus_multiples-at : (p s : ℕ) (D : List ℕ) (i : ℕ) (xs : List ℕ) → plus_multiples p s (drop i D) xs ≡ plus_multiples_at p s D i xs
unfolding plus_multiples
plus_multiples-at p s D i [] = refl
plus_multiples-at p s D i (x ∷ xs) =
    cons_eq (ap (λ (d : ℕ). (s + d * x) % p) (first_at D i)) (ap (λ (E : List ℕ). plus_multiples p s E xs) (rest_at D i) ∙ plus_multiples-at p s D (suc i) xs)

-- M_I at the first t places of D
pub internal_at : (p t : ℕ) (D xs : List ℕ) → length xs ≡ t → internal p (take t D) xs ≡ plus_multiples_at p (sum xs) D 0 xs
unfolding internal
internal_at p t D xs l = ap (λ (n : ℕ). internal p (take n D) xs) (sym l) ∙ internal_take p D xs ∙ plus_multiples-at p (sum xs) D 0 xs

-- the first of n + 1 rounds whose constants start at place i
pub full_rounds-at : (p t n : ℕ) (C : List ℕ) (i : ℕ) (xs : List ℕ) → full_rounds p t (suc n) (drop i C) xs ≡ full_rounds p t n (drop (i + t) C) (full_round p (take t (drop i C)) xs)
unfolding full_rounds
full_rounds-at p t n C i xs = ap (λ (cs : List ℕ). full_rounds p t n cs (full_round p (take t (drop i C)) xs)) (drop-drop t i C)

pub partial_rounds-at : (p : ℕ) (D : List ℕ) (n : ℕ) (C : List ℕ) (i : ℕ) (xs : List ℕ) → partial_rounds p D (suc n) (drop i C) xs ≡ partial_rounds p D n (drop (suc i) C) (partial_round p D (get_or C i 0) xs)
unfolding partial_rounds
partial_rounds-at p D n C i xs = ap₂ (λ (cs : List ℕ) (c : ℕ). partial_rounds p D n cs (partial_round p D c xs)) (rest_at C i) (first_at C i)
