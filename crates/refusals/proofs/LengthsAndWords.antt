-- Lists of refusals that end in 10, for lengths, and 12, for words.
use mathlib.Core.Path.{◌≡◌, ap, ◌∙◌}
use mathlib.Core.Bool.{Bool, true, false, not, ◌&&◌}
use mathlib.Core.List.{List, [], ◌∷◌, ◌++◌}
use Prim.Native.Nat.{ℕ}
use lib.Dec.{lit<}
use borrow.Author.Tests.{not-false}
use Rattle.modular.specs.Arithmetic.{all_words}
use Rattle.refusals.specs.Table.{Refusal, refusal, not_words, first_refusal}
use Rattle.refusals.proofs.Table.{Numbered, none, next, numbered_append, refusal_applies, refusal_passes, refusal_none, first_back, first_none}

-- of two lengths one is wrong, or both are right
pub first_bad : (a b : Bool) → a ≡ false → not (a && b) ≡ true
first_bad a b e = rw e

pub second_bad : (a b : Bool) → a ≡ true → b ≡ false → not (a && b) ≡ true
second_bad a b e f = rw (e, f)

pub both_good : (a b : Bool) → a ≡ true → b ≡ true → not (a && b) ≡ false
both_good a b e f = rw (e, f)

pub and_false_left : (a b : Bool) → a ≡ false → (a && b) ≡ false
and_false_left a b e = rw e

pub and_true_left : (a b : Bool) → a ≡ true → (a && b) ≡ b
and_true_left a b e = rw e

pub and_false_right : (a b : Bool) → a ≡ true → b ≡ false → (a && b) ≡ false
and_false_right a b e f = rw (e, f)

module _ (p : ℕ) (refusals : List Refusal) (N : Numbered refusals) (badLength : Bool) (xs : List ℕ) where
  abbrev pub all : List Refusal
  all = refusals ++ (refusal 10 badLength ∷ not_words p xs ∷ [])

  pub all_numbered : Numbered all
  unfolding not_words
  all_numbered = numbered_append N (next (lit< tt) (next (lit< tt) none))

  pub at_10 : first_refusal refusals ≡ 0 → badLength ≡ true → first_refusal all ≡ 10
  at_10 z e = first_back refusals _ N z ∙ refusal_applies 10 badLength _ e

  pub at_12 : first_refusal refusals ≡ 0 → badLength ≡ false → all_words p xs ≡ false → first_refusal all ≡ 12
  unfolding not_words
  at_12 z e w = first_back refusals _ N z ∙ refusal_passes 10 badLength _ e ∙ refusal_applies 12 (not (all_words p xs)) [] (ap not w)

  pub at_none : first_refusal refusals ≡ 0 → badLength ≡ false → all_words p xs ≡ true → first_refusal all ≡ 0
  unfolding not_words first_refusal
  at_none z e w = first_back refusals _ N z ∙ refusal_passes 10 badLength (not_words p xs ∷ []) e ∙ refusal_passes 12 (not (all_words p xs)) [] (ap not w)

  -- what holds where none applies
  pub record Passed : Type 0 where
    pub before : first_refusal refusals ≡ 0
    pub lengths : badLength ≡ false
    pub words : all_words p xs ≡ true

  pub passed : first_refusal all ≡ 0 → Passed
  unfolding not_words
  passed e =
      let front = first_none refusals (refusal 10 badLength ∷ not_words p xs ∷ []) N e in
      let lengths = refusal_none 9 badLength _ front.1 in
      let words = refusal_none 11 (not (all_words p xs)) _ lengths.1 in
      record { before = front.0; lengths = lengths.0; words = not-false (all_words p xs) words.0 }
