use mathlib.Core.Path.{sym, ◌∙◌}
use borrow.Author.Tests.{eq-eqb, ne_eqb}
use Rattle.refusals.proofs.Answers.{front_returned}
use Rattle.parameters.proofs.Accepted.{set-numbered}
use Rattle.tree_entries.specs.Trees.{storeless_refusals}
use Rattle.refusals.proofs.LengthsAndWords.{at_10, at_12, at_none, first_bad, second_bad, both_good}
use Rattle.tree_entries.proofs.building.check_storeless.Goals as goal

pub returns-in_err-check : goal.returns-in_err-check
unfolding storeless_refusals
returns-in_err-check c = front_returned _ _ _ _ c.from_residual.ensures.1 c.in_err-check.ensures

pub returns-then-leaves-leaf_words : goal.returns-then-leaves-leaf_words
unfolding storeless_refusals
returns-then-leaves-leaf_words c =
    sym (at_10 _ _ (set-numbered _) _ _ (sym c.in_ok-check.ensures) (first_bad _ _ (ne_eqb _ _ (λ z. c.if-leaves-leaf_words.true (z ∙ sym c.leaf_words.ensures)))))

pub returns-then-node-set : goal.returns-then-node-set
unfolding storeless_refusals
returns-then-node-set c =
    sym (at_10 _ _ (set-numbered _) _ _ (sym c.in_ok-check.ensures) (second_bad _ _ (eq-eqb _ _ (c.if-leaves-leaf_words.false ∙ c.leaf_words.ensures)) (ne_eqb _ _ c.if-node-set.true)))

pub returns-then-not-all_words : goal.returns-then-not-all_words
unfolding storeless_refusals
returns-then-not-all_words c =
    sym (at_12 _ _ (set-numbered _) _ _ (sym c.in_ok-check.ensures) (both_good _ _ (eq-eqb _ _ (c.if-leaves-leaf_words.false ∙ c.leaf_words.ensures)) (eq-eqb _ _ c.if-node-set.false))
    (sym c.all_words.ensures ∙ c.if-not-all_words.true))

pub returns : goal.returns
unfolding storeless_refusals
returns c =
    sym (at_none _ _ (set-numbered _) _ _ (sym c.in_ok-check.ensures) (both_good _ _ (eq-eqb _ _ (c.if-leaves-leaf_words.false ∙ c.leaf_words.ensures)) (eq-eqb _ _ c.if-node-set.false))
    (sym c.all_words.ensures ∙ c.if-not-all_words.false))
