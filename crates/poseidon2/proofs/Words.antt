-- Lists of words and of residues, and the sums and differences of lists.
use mathlib.Core.Path.{◌≡◌, refl, ap, ap₂}
use mathlib.Core.List.{List, [], ◌∷◌, ◌++◌, map}
use Prim.Native.Nat.{ℕ, zero, suc, ◌+◌, ◌-◌, ◌%◌, ◌<◌}
use native.Mathlib.Nat.{mod-lt, mod-eq_of_lt, mod-mod}
use lib.ListN.{length, get_or, take, drop, set}
use Rattle.modular.specs.Arithmetic.{add, sub}
use Rattle.modular.proofs.Congruence.{refl≈, add≈, mod≈}
use Rattle.poseidon2.specs.Layers.{add_lists}
use Rattle.poseidon2.specs.Residues.{residues}
use Rattle.poseidon2.specs.Inverse.{sub_lists}
use Rattle.poseidon2.specs.Statements.{Words, State}

pub cons_eq : {x y : ℕ} {xs ys : List ℕ} → x ≡ y → xs ≡ ys → x ∷ xs ≡ y ∷ ys
cons_eq e f = ap₂ (λ (x : ℕ) (xs : List ℕ). x ∷ xs) e f

pub residues_length : (p : ℕ) (xs : List ℕ) → length (residues p xs) ≡ length xs
unfolding residues
residues_length p [] = refl
residues_length p (x ∷ xs) = ap suc (residues_length p xs)

pub residues_twice : (p : ℕ) (xs : List ℕ) → residues p (residues p xs) ≡ residues p xs
unfolding residues
residues_twice p [] = refl
residues_twice p (x ∷ xs) = cons_eq (mod-mod x p) (residues_twice p xs)

pub words_tail : {p x : ℕ} {xs : List ℕ} → Words p (x ∷ xs) → Words p xs
words_tail w = record { at = λ i. w.at (suc i) }

-- words are their own residues
pub residues_words : {p : ℕ} (xs : List ℕ) → Words p xs → residues p xs ≡ xs
unfolding residues
residues_words [] w = refl
residues_words (x ∷ xs) w = cons_eq (mod-eq_of_lt (w.at 0)) (residues_words xs (words_tail w))

pub add_lists-length : (p : ℕ) (xs ys : List ℕ) → length (add_lists p xs ys) ≡ length xs
unfolding add_lists
add_lists-length p [] ys = refl
add_lists-length p (x ∷ xs) ys = ap suc (add_lists-length p xs (drop 1 ys))

pub sub_lists-length : (p : ℕ) (xs ys : List ℕ) → length (sub_lists p xs ys) ≡ length xs
unfolding sub_lists
sub_lists-length p [] ys = refl
sub_lists-length p (x ∷ xs) ys = ap suc (sub_lists-length p xs (drop 1 ys))

-- sums of lists depend on residues only
pub add_lists-left : (p : ℕ) (xs ys : List ℕ) → add_lists p (residues p xs) ys ≡ add_lists p xs ys
unfolding add_lists residues add
add_lists-left p [] ys = refl
add_lists-left p (x ∷ xs) ys = cons_eq (add≈ (mod≈ x) (refl≈ {a = get_or ys 0 0})).same (add_lists-left p xs (drop 1 ys))

pub add_lists_right : (p : ℕ) (xs ys : List ℕ) → add_lists p xs (residues p ys) ≡ add_lists p xs ys
unfolding add_lists residues add
add_lists_right p [] ys = refl
add_lists_right p (x ∷ xs) [] = cons_eq refl (add_lists_right p xs [])
add_lists_right p (x ∷ xs) (y ∷ ys) = cons_eq (add≈ (refl≈ {a = x}) (mod≈ y)).same (add_lists_right p xs ys)

module _ {p : ℕ} (pos : 0 < p) where
  pub below : (a : ℕ) → a % p < p
  below a = mod-lt a pos

  pub words_none : Words p []
  words_none = record { at = λ i. pos }

  pub words_more : {x : ℕ} {xs : List ℕ} → x < p → Words p xs → Words p (x ∷ xs)
  words_more {x} {xs} h w = record { at = λ i. more i }
    where
      more : (i : ℕ) → get_or (x ∷ xs) i 0 < p
      more zero = h
      more (suc i) = w.at i

  pub words_append : (xs ys : List ℕ) → Words p xs → Words p ys → Words p (xs ++ ys)
  words_append [] ys w v = v
  words_append (x ∷ xs) ys w v = words_more (w.at 0) (words_append xs ys (words_tail w) v)

  pub words_set : (xs : List ℕ) → Words p xs → (i x : ℕ) → x < p → Words p (set xs i x)
  words_set [] w i x h = words_none
  words_set (y ∷ xs) w zero x h = words_more h (words_tail w)
  words_set (y ∷ xs) w (suc i) x h = words_more (w.at 0) (words_set xs (words_tail w) i x h)

  pub words_map : (f : ℕ → ℕ) → ((x : ℕ) → f x < p) → (xs : List ℕ) → Words p (map f xs)
  words_map f h [] = words_none
  words_map f h (x ∷ xs) = words_more (h x) (words_map f h xs)

  pub words_take : (n : ℕ) (xs : List ℕ) → Words p xs → Words p (take n xs)
  words_take zero xs w = words_none
  words_take (suc n) [] w = words_none
  words_take (suc n) (x ∷ xs) w = words_more (w.at 0) (words_take n xs (words_tail w))

  pub residues_are_words : (xs : List ℕ) → Words p (residues p xs)
  unfolding residues
  residues_are_words xs = words_map (λ x. x % p) below xs

  pub add_lists-words : (xs ys : List ℕ) → Words p (add_lists p xs ys)
  unfolding add_lists add
  add_lists-words [] ys = words_none
  add_lists-words (x ∷ xs) ys = words_more (below (x + get_or ys 0 0)) (add_lists-words xs (drop 1 ys))

  pub sub_lists-words : (xs ys : List ℕ) → Words p (sub_lists p xs ys)
  unfolding sub_lists sub
  sub_lists-words [] ys = words_none
  sub_lists-words (x ∷ xs) ys = words_more (below (x + (p - get_or ys 0 0 % p))) (sub_lists-words xs (drop 1 ys))

pub state_words : {p t : ℕ} {xs : List ℕ} → State p t xs → residues p xs ≡ xs
state_words {p} {t} {xs} s = residues_words xs s.words
