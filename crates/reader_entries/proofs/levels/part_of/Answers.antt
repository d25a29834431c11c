use mathlib.Core.Path.{sym, ap, ◌∙◌}
use mathlib.Core.Bool.{not}
use borrow.Author.Tests.{eq-eqb, ne_eqb, lt-ltb, le-ltb}
use native.Mathlib.Omega.{arith}
use Rattle.modular.specs.Arithmetic.{all_words}
use Rattle.refusals.proofs.LengthsPlacesAndWords.{at_10, at_11, at_words, twelve, no_twelve}
use Rattle.parameters.proofs.Accepted.{set-numbered}
use Rattle.reader_entries.specs.Readers.{read_refusals}
use Rattle.reader_entries.proofs.Readings.{read_refused, read_done, read_returned}
use Rattle.reader_entries.proofs.levels.part_of.Goals as goal

pub returns-in_err-check : goal.returns-in_err-check
returns-in_err-check c = read_returned _ _ _ _ _ c.from_residual.ensures.1 c.in_err-check.ensures

pub opening_words-requires : goal.opening_words-requires
opening_words-requires c = sym c.in_ok-check.ensures

pub returns-then-siblings-opening_words : goal.returns-then-siblings-opening_words
unfolding read_refusals
returns-then-siblings-opening_words c =
    read_refused _ _ _ 10
    (sym (at_10 _ _ (set-numbered _) _ _ _ (sym c.in_ok-check.ensures) (ap not (ne_eqb _ _ (λ z. c.if-siblings-opening_words.true (z ∙ sym c.opening_words.ensures))))))
    (λ z. absurd (omega arith))

pub returns-then-set-level : goal.returns-then-set-level
unfolding read_refusals
returns-then-set-level c =
    read_refused _ _ _ 11
    (sym (at_11 _ _ (set-numbered _) _ _ _ (sym c.in_ok-check.ensures) (ap not (eq-eqb _ _ (c.if-siblings-opening_words.false ∙ c.opening_words.ensures))) (ap not (le-ltb _ _ c.if-set-level.true))))
    (λ z. absurd (omega arith))

pub level_words-words-requires : goal.level_words-words-requires
level_words-words-requires c =
    (sym c.in_ok-check.ensures, c.if-siblings-opening_words.false ∙ c.opening_words.ensures, c.if-set-level.false)

-- where the lengths and the level are right, refusal 12 of the part decides
pub returns-then-not-all_words : goal.returns-then-not-all_words
unfolding read_refusals
returns-then-not-all_words c =
    read_refused _ _ _ 12
    (sym (at_words _ _ (set-numbered _) _ _ _ (sym c.in_ok-check.ensures) (ap not (eq-eqb _ _ (c.if-siblings-opening_words.false ∙ c.opening_words.ensures))) (ap not (lt-ltb _ _ c.if-set-level.false))
    ∙ twelve _ _ (sym (c.all_words.ensures ∙ ap (all_words _) c.level_words-words.ensures) ∙ c.if-not-all_words.true)))
    (λ z. absurd (omega arith))

pub returns : goal.returns
unfolding read_refusals
returns c =
    read_done _ _ _ _ c.level_words-words.ensures
    (at_words _ _ (set-numbered _) _ _ _ (sym c.in_ok-check.ensures) (ap not (eq-eqb _ _ (c.if-siblings-opening_words.false ∙ c.opening_words.ensures))) (ap not (lt-ltb _ _ c.if-set-level.false))
    ∙ no_twelve _ _ (sym (c.all_words.ensures ∙ ap (all_words _) c.level_words-words.ensures) ∙ c.if-not-all_words.false))
