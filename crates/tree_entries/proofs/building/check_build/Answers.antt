use mathlib.Core.Path.{sym, ◌∙◌}
use borrow.Author.Tests.{eq-eqb, ne_eqb}
use Rattle.refusals.proofs.Answers.{front_returned}
use Rattle.refusals.proofs.LengthsAndWords.{at_10, at_12, at_none, first_bad, second_bad, both_good}
use Rattle.parameters.proofs.Accepted.{set-numbered}
use Rattle.tree_entries.specs.Trees.{build_refusals}
use Rattle.tree_entries.proofs.building.check_build.Goals as goal

pub returns-in_err-check : goal.returns-in_err-check
unfolding build_refusals
returns-in_err-check c = front_returned _ _ _ _ c.from_residual.ensures.1 c.in_err-check.ensures

pub returns-then-leaves-leaf_words : goal.returns-then-leaves-leaf_words
unfolding build_refusals
returns-then-leaves-leaf_words c =
    sym (at_10 _ _ (set-numbered _) _ _ (sym c.in_ok-check.ensures) (first_bad _ _ (ne_eqb _ _ (λ z. c.if-leaves-leaf_words.true (z ∙ sym c.leaf_words.ensures)))))

pub returns-then-store-store_words : goal.returns-then-store-store_words
unfolding build_refusals
returns-then-store-store_words c =
    sym (at_10 _ _ (set-numbered _) _ _ (sym c.in_ok-check.ensures) (second_bad _ _ (eq-eqb _ _ (c.if-leaves-leaf_words.false ∙ c.leaf_words.ensures)) (ne_eqb _ _ (λ z. c.if-store-store_words.true (z ∙ sym c.store_words.ensures)))))

pub returns-then-not-all_words : goal.returns-then-not-all_words
unfolding build_refusals
returns-then-not-all_words c =
    sym (at_12 _ _ (set-numbered _) _ _ (sym c.in_ok-check.ensures) (both_good _ _ (eq-eqb _ _ (c.if-leaves-leaf_words.false ∙ c.leaf_words.ensures)) (eq-eqb _ _ (c.if-store-store_words.false ∙ c.store_words.ensures)))
    (sym c.all_words.ensures ∙ c.if-not-all_words.true))

pub returns : goal.returns
unfolding build_refusals
returns c =
    sym (at_none _ _ (set-numbered _) _ _ (sym c.in_ok-check.ensures) (both_good _ _ (eq-eqb _ _ (c.if-leaves-leaf_words.false ∙ c.leaf_words.ensures)) (eq-eqb _ _ (c.if-store-store_words.false ∙ c.store_words.ensures)))
    (sym c.all_words.ensures ∙ c.if-not-all_words.false))
