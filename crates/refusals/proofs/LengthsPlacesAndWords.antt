-- Lists of refusals that end in 10, for lengths, 11, for a place, and 12, for words.
use mathlib.Core.Path.{◌≡◌, refl, sym, ap, ◌∙◌}
use mathlib.Core.Bool.{Bool, true, false, not, false≢true}
use mathlib.Core.List.{List, [], ◌∷◌, ◌++◌}
use Prim.Native.Nat.{ℕ}
use lib.Dec.{lit<}
use borrow.Author.Tests.{not-false}
use Rattle.modular.specs.Arithmetic.{all_words}
use Rattle.modular.proofs.Words.{words_append, words_left, words_right}
use Rattle.refusals.specs.Table.{Refusal, refusal, not_words, first_refusal}
use Rattle.refusals.proofs.Table.{Numbered, none, next, numbered_append, refusal_applies, refusal_passes, refusal_none, first_back, first_none}

module _ (p : ℕ) (refusals : List Refusal) (N : Numbered refusals) (badLength badPlace : Bool) (xs : List ℕ) where
  abbrev pub all : List Refusal
  all = refusals ++ (refusal 10 badLength ∷ refusal 11 badPlace ∷ not_words p xs ∷ [])

  pub all_numbered : Numbered all
  unfolding not_words
  all_numbered = numbered_append N (next (lit< tt) (next (lit< tt) (next (lit< tt) none)))

  pub at_10 : first_refusal refusals ≡ 0 → badLength ≡ true → first_refusal all ≡ 10
  at_10 z e = first_back refusals _ N z ∙ refusal_applies 10 badLength _ e

  pub at_11 : first_refusal refusals ≡ 0 → badLength ≡ false → badPlace ≡ true → first_refusal all ≡ 11
  at_11 z e f = first_back refusals _ N z ∙ refusal_passes 10 badLength _ e ∙ refusal_applies 11 badPlace _ f

  -- where lengths and place are right, 12 decides
  pub at_words : first_refusal refusals ≡ 0 → badLength ≡ false → badPlace ≡ false → first_refusal all ≡ first_refusal (not_words p xs ∷ [])
  at_words z e f = first_back refusals _ N z ∙ refusal_passes 10 badLength _ e ∙ refusal_passes 11 badPlace _ f

  -- what holds where none applies
  pub record Passed : Type 0 where
    pub before : first_refusal refusals ≡ 0
    pub lengths : badLength ≡ false
    pub place : badPlace ≡ false
    pub words : all_words p xs ≡ true

  pub passed : first_refusal all ≡ 0 → Passed
  unfolding not_words
  passed e =
      let front = first_none refusals (refusal 10 badLength ∷ refusal 11 badPlace ∷ not_words p xs ∷ []) N e in
      let lengths = refusal_none 9 badLength _ front.1 in
      let place = refusal_none 10 badPlace _ lengths.1 in
      let words = refusal_none 11 (not (all_words p xs)) _ place.1 in
      record { before = front.0; lengths = lengths.0; place = place.0; words = not-false (all_words p xs) words.0 }

-- 12 before others
pub twelve_first : (p : ℕ) (xs : List ℕ) (more : List Refusal) → all_words p xs ≡ false → first_refusal (not_words p xs ∷ more) ≡ 12
unfolding not_words
twelve_first p xs more w = refusal_applies 12 (not (all_words p xs)) more (ap not w)

pub twelve_passed : (p : ℕ) (xs : List ℕ) (more : List Refusal) → all_words p xs ≡ true → first_refusal (not_words p xs ∷ more) ≡ first_refusal more
unfolding not_words
twelve_passed p xs more w = refusal_passes 12 (not (all_words p xs)) more (ap not w)

-- 12 alone
pub twelve : (p : ℕ) (xs : List ℕ) → all_words p xs ≡ false → first_refusal (not_words p xs ∷ []) ≡ 12
twelve p xs w = twelve_first p xs [] w

pub no_twelve : (p : ℕ) (xs : List ℕ) → all_words p xs ≡ true → first_refusal (not_words p xs ∷ []) ≡ 0
unfolding first_refusal
no_twelve p xs w = twelve_passed p xs [] w

-- a list with a part that is no list of words is none
pub left_not_words : (p : ℕ) (xs ys : List ℕ) → all_words p xs ≡ false → all_words p (xs ++ ys) ≡ false
left_not_words p xs ys e = of (all_words p (xs ++ ys)) refl
  where
    of : (b : Bool) → all_words p (xs ++ ys) ≡ b → all_words p (xs ++ ys) ≡ false
    of true h = absurd (false≢true (sym e ∙ words_left p xs ys h))
    of false h = h

pub right_not_words : (p : ℕ) (xs ys : List ℕ) → all_words p ys ≡ false → all_words p (xs ++ ys) ≡ false
right_not_words p xs ys e = of (all_words p (xs ++ ys)) refl
  where
    of : (b : Bool) → all_words p (xs ++ ys) ≡ b → all_words p (xs ++ ys) ≡ false
    of true h = absurd (false≢true (sym e ∙ words_right p xs ys h))
    of false h = h

-- behind words, what follows decides
pub words_behind : (p : ℕ) (xs ys : List ℕ) → all_words p xs ≡ true → all_words p (xs ++ ys) ≡ all_words p ys
words_behind p xs ys e = of (all_words p ys) refl
  where
    of : (b : Bool) → all_words p ys ≡ b → all_words p (xs ++ ys) ≡ all_words p ys
    of true h = words_append p xs ys e h ∙ sym h
    of false h = right_not_words p xs ys h ∙ sym h
