-- Lists of words, and tests of two parts.
use mathlib.Core.Path.{◌≡◌, refl, sym, ap, ◌∙◌}
use mathlib.Core.Bool.{Bool, true, false, ◌&&◌, false≢true, and_assoc}
use mathlib.Core.List.{List, [], ◌∷◌, ◌++◌}
use Prim.Native.Nat.{ℕ, zero, suc, ◌+◌, ◌≤◌, ◌<◌}
use native.Mathlib.Omega.{arith}
use lib.Dec.{ltb}
use lib.ListN.{length, get_or, take, drop, take-append-drop}
use borrow.Author.Tests.{lt-ltb, le-ltb, ltb-true}
use Rattle.modular.specs.Arithmetic.{is_word, all_words}
use Rattle.modular.proofs.Fours.{four_at, from_four}

pub and_true : (a b : Bool) → a ≡ true → b ≡ true → (a && b) ≡ true
and_true a b e f = rw (e, f)

pub left_true : (a b : Bool) → (a && b) ≡ true → a ≡ true
left_true true b e = refl
left_true false b e = e

pub right_true : (a b : Bool) → (a && b) ≡ true → b ≡ true
right_true true b e = e
right_true false b e = absurd (false≢true e)

module _ (p : ℕ) where
  pub none_words : all_words p [] ≡ true
  unfolding all_words
  none_words = refl

  -- a word first leaves the rest to be tested, and a number that is none fails the list
  pub word_first : (a : ℕ) (xs : List ℕ) → a < p → all_words p (a ∷ xs) ≡ all_words p xs
  unfolding all_words
  word_first a xs h = rw (lt-ltb a p h)

  pub not_word_first : (a : ℕ) (xs : List ℕ) → p ≤ a → all_words p (a ∷ xs) ≡ false
  unfolding all_words
  not_word_first a xs h = rw (le-ltb a p h)

  -- a list of two parts is tested by its parts
  pub words_both : (xs ys : List ℕ) → all_words p (xs ++ ys) ≡ (all_words p xs && all_words p ys)
  unfolding all_words
  words_both [] ys = refl
  words_both (x ∷ xs) ys = ap (λ (b : Bool). is_word p x && b) (words_both xs ys) ∙ sym (and_assoc (is_word p x) (all_words p xs) (all_words p ys))

  pub words_append : (xs ys : List ℕ) → all_words p xs ≡ true → all_words p ys ≡ true → all_words p (xs ++ ys) ≡ true
  words_append xs ys e f = words_both xs ys ∙ and_true (all_words p xs) (all_words p ys) e f

  pub words_left : (xs ys : List ℕ) → all_words p (xs ++ ys) ≡ true → all_words p xs ≡ true
  words_left xs ys e = left_true (all_words p xs) (all_words p ys) (sym (words_both xs ys) ∙ e)

  pub words_right : (xs ys : List ℕ) → all_words p (xs ++ ys) ≡ true → all_words p ys ≡ true
  words_right xs ys e = right_true (all_words p xs) (all_words p ys) (sym (words_both xs ys) ∙ e)

  -- four numbers of a list are tested by themselves, and then what follows them
  pub words_four : (xs : List ℕ) (i : ℕ) → i + 4 ≤ length xs → all_words p (drop i xs) ≡ (all_words p (four_at xs i) && all_words p (drop (i + 4) xs))
  words_four xs i h = ap (all_words p) (from_four xs i h) ∙ words_both (four_at xs i) (drop (i + 4) xs)

  pub words_at : (xs : List ℕ) (i : ℕ) → all_words p xs ≡ true → i < length xs → get_or xs i 0 < p
  unfolding all_words is_word
  words_at [] i e b = absurd (omega arith)
  words_at (x ∷ xs) zero e b = ltb-true x p (left_true (ltb x p) (all_words p xs) e)
  words_at (x ∷ xs) (suc i) e b = words_at xs i (right_true (ltb x p) (all_words p xs) e) (omega arith)

  pub words_by : (xs : List ℕ) → ((i : ℕ) → i < length xs → get_or xs i 0 < p) → all_words p xs ≡ true
  unfolding all_words is_word
  words_by [] e = refl
  words_by (x ∷ xs) e = and_true (ltb x p) (all_words p xs) (lt-ltb x p (e 0 (omega arith))) (words_by xs (λ i b. e (suc i) (omega arith)))

  pub words_take : (n : ℕ) (xs : List ℕ) → all_words p xs ≡ true → all_words p (take n xs) ≡ true
  words_take n xs e = words_left (take n xs) (drop n xs) (rw (take-append-drop n xs) e)

  pub words_drop : (n : ℕ) (xs : List ℕ) → all_words p xs ≡ true → all_words p (drop n xs) ≡ true
  words_drop n xs e = words_right (take n xs) (drop n xs) (rw (take-append-drop n xs) e)
