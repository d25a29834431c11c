use mathlib.Core.Path.{sym, ap, ◌∙◌}
use mathlib.Core.Bool.{not}
use borrow.Author.Tests.{eq-eqb, ne_eqb, lt-ltb, le-ltb}
use Rattle.refusals.proofs.Answers.{front_returned}
use Rattle.parameters.proofs.Accepted.{set-numbered}
use Rattle.modular.proofs.Words.{and_true}
use Rattle.tree_entries.specs.Trees.{verify_refusals}
use Rattle.refusals.proofs.LengthsPlacesAndWords.{at_10, at_11, at_words}
use Rattle.refusals.proofs.LengthsAndWords.{first_bad, and_false_left, and_false_right, second_bad, both_good}
use Rattle.tree_entries.proofs.openings.check_verify.Goals as goal

pub returns-in_err-check : goal.returns-in_err-check
unfolding verify_refusals
returns-in_err-check c = front_returned _ _ _ _ c.from_residual.ensures.1 c.in_err-check.ensures

pub returns-then-root-set : goal.returns-then-root-set
unfolding verify_refusals
returns-then-root-set c =
    sym (at_10 _ _ (set-numbered _) _ _ _ (sym c.in_ok-check.ensures) (first_bad _ _ (and_false_left _ _ (ne_eqb _ _ c.if-root-set.true))))

pub returns-then-leaf-set : goal.returns-then-leaf-set
unfolding verify_refusals
returns-then-leaf-set c =
    sym (at_10 _ _ (set-numbered _) _ _ _ (sym c.in_ok-check.ensures) (first_bad _ _ (and_false_right _ _ (eq-eqb _ _ c.if-root-set.false) (ne_eqb _ _ c.if-leaf-set.true))))

pub returns-then-siblings-opening_words : goal.returns-then-siblings-opening_words
unfolding verify_refusals
returns-then-siblings-opening_words c =
    sym (at_10 _ _ (set-numbered _) _ _ _ (sym c.in_ok-check.ensures) (second_bad _ _ (and_true _ _ (eq-eqb _ _ c.if-root-set.false) (eq-eqb _ _ c.if-leaf-set.false)) (ne_eqb _ _ (λ z. c.if-siblings-opening_words.true (z ∙ sym c.opening_words.ensures)))))

pub returns-then-places-place : goal.returns-then-places-place
unfolding verify_refusals
returns-then-places-place c =
    sym (at_11 _ _ (set-numbered _) _ _ _ (sym c.in_ok-check.ensures) (both_good _ _ (and_true _ _ (eq-eqb _ _ c.if-root-set.false) (eq-eqb _ _ c.if-leaf-set.false)) (eq-eqb _ _ (c.if-siblings-opening_words.false ∙ c.opening_words.ensures))) (ap not (le-ltb _ _ (rw c.places.ensures at c.if-places-place.true))))

pub returns : goal.returns
unfolding verify_refusals
returns c =
    c.check_words.ensures
    ∙ sym (at_words _ _ (set-numbered _) _ _ _ (sym c.in_ok-check.ensures) (both_good _ _ (and_true _ _ (eq-eqb _ _ c.if-root-set.false) (eq-eqb _ _ c.if-leaf-set.false)) (eq-eqb _ _ (c.if-siblings-opening_words.false ∙ c.opening_words.ensures))) (ap not (lt-ltb _ _ (rw c.places.ensures at c.if-places-place.false))))
