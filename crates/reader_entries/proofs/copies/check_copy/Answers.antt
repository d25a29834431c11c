use mathlib.Core.Path.{sym, ap, ◌∙◌}
use mathlib.Core.Bool.{not}
use borrow.Author.Tests.{eq-eqb, ne_eqb, lt-ltb, le-ltb}
use Rattle.modular.specs.Arithmetic.{all_words}
use Rattle.refusals.proofs.Answers.{front_returned}
use Rattle.refusals.proofs.LengthsAndWords.{first_bad, second_bad, both_good}
use Rattle.refusals.proofs.LengthsPlacesAndWords.{at_10, at_11, at_words, twelve, no_twelve}
use Rattle.parameters.proofs.Accepted.{set-numbered}
use Rattle.reader_entries.specs.Copies.{copy_refusals}
use Rattle.reader_entries.proofs.copies.check_copy.Goals as goal

pub returns-in_err-check : goal.returns-in_err-check
unfolding copy_refusals
returns-in_err-check c = front_returned _ _ _ _ c.from_residual.ensures.1 c.in_err-check.ensures

pub opening_words-requires : goal.opening_words-requires
opening_words-requires c = sym c.in_ok-check.ensures

pub returns-then-siblings-opening_words : goal.returns-then-siblings-opening_words
unfolding copy_refusals
returns-then-siblings-opening_words c =
    sym (at_10 _ _ (set-numbered _) _ _ _ (sym c.in_ok-check.ensures) (first_bad _ _ (ne_eqb _ _ (λ z. c.if-siblings-opening_words.true (z ∙ sym c.opening_words.ensures)))))

pub part_words-requires : goal.part_words-requires
part_words-requires c =
    sym c.in_ok-check.ensures

pub returns-then-buffer-part_words : goal.returns-then-buffer-part_words
unfolding copy_refusals
returns-then-buffer-part_words c =
    sym (at_10 _ _ (set-numbered _) _ _ _ (sym c.in_ok-check.ensures) (second_bad _ _ (eq-eqb _ _ (c.if-siblings-opening_words.false ∙ c.opening_words.ensures)) (ne_eqb _ _ (λ z. c.if-buffer-part_words.true (z ∙ sym c.part_words.ensures)))))

pub returns-then-set-level : goal.returns-then-set-level
unfolding copy_refusals
returns-then-set-level c =
    sym (at_11 _ _ (set-numbered _) _ _ _ (sym c.in_ok-check.ensures) (both_good _ _ (eq-eqb _ _ (c.if-siblings-opening_words.false ∙ c.opening_words.ensures)) (eq-eqb _ _ (c.if-buffer-part_words.false ∙ c.part_words.ensures))) (ap not (le-ltb _ _ c.if-set-level.true)))

pub level_words-words-requires : goal.level_words-words-requires
level_words-words-requires c =
    (sym c.in_ok-check.ensures, c.if-siblings-opening_words.false ∙ c.opening_words.ensures, c.if-set-level.false)

-- where the lengths and the level are right, refusal 12 of the part decides
pub returns-then-not-all_words : goal.returns-then-not-all_words
unfolding copy_refusals
returns-then-not-all_words c =
    sym (at_words _ _ (set-numbered _) _ _ _ (sym c.in_ok-check.ensures) (both_good _ _ (eq-eqb _ _ (c.if-siblings-opening_words.false ∙ c.opening_words.ensures)) (eq-eqb _ _ (c.if-buffer-part_words.false ∙ c.part_words.ensures))) (ap not (lt-ltb _ _ c.if-set-level.false))
    ∙ twelve _ _ (sym (c.all_words.ensures ∙ ap (all_words _) c.level_words-words.ensures) ∙ c.if-not-all_words.true))

pub returns : goal.returns
unfolding copy_refusals
returns c =
    sym (at_words _ _ (set-numbered _) _ _ _ (sym c.in_ok-check.ensures) (both_good _ _ (eq-eqb _ _ (c.if-siblings-opening_words.false ∙ c.opening_words.ensures)) (eq-eqb _ _ (c.if-buffer-part_words.false ∙ c.part_words.ensures))) (ap not (lt-ltb _ _ c.if-set-level.false))
    ∙ no_twelve _ _ (sym (c.all_words.ensures ∙ ap (all_words _) c.level_words-words.ensures) ∙ c.if-not-all_words.false))
