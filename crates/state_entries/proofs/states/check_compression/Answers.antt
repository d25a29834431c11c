use mathlib.Core.Path.{sym, ◌∙◌}
use borrow.Author.Tests.{eq-eqb, ne_eqb}
use Rattle.refusals.proofs.Answers.{front_returned}
use Rattle.parameters.proofs.Accepted.{set-numbered}
use Rattle.state_entries.specs.Permutation.{compress_refusals}
use Rattle.refusals.proofs.LengthsAndWords.{at_10, at_12, at_none, first_bad, second_bad, both_good}
use Rattle.state_entries.proofs.states.check_compression.Goals as goal

pub returns-in_err-check : goal.returns-in_err-check
unfolding compress_refusals
returns-in_err-check c = front_returned _ _ _ _ c.from_residual.ensures.1 c.in_err-check.ensures

pub returns-then-state-set : goal.returns-then-state-set
unfolding compress_refusals
returns-then-state-set c =
    sym (at_10 _ _ (set-numbered _) _ _ (sym c.in_ok-check.ensures) (first_bad _ _ (ne_eqb _ _ c.if-state-set.true)))

pub returns-then-node-set : goal.returns-then-node-set
unfolding compress_refusals
returns-then-node-set c =
    sym (at_10 _ _ (set-numbered _) _ _ (sym c.in_ok-check.ensures) (second_bad _ _ (eq-eqb _ _ c.if-state-set.false) (ne_eqb _ _ c.if-node-set.true)))

pub returns-then-not-all_words : goal.returns-then-not-all_words
unfolding compress_refusals
returns-then-not-all_words c =
    sym (at_12 _ _ (set-numbered _) _ _ (sym c.in_ok-check.ensures) (both_good _ _ (eq-eqb _ _ c.if-state-set.false) (eq-eqb _ _ c.if-node-set.false))
    (sym c.all_words.ensures ∙ c.if-not-all_words.true))

pub returns : goal.returns
unfolding compress_refusals
returns c =
    sym (at_none _ _ (set-numbered _) _ _ (sym c.in_ok-check.ensures) (both_good _ _ (eq-eqb _ _ c.if-state-set.false) (eq-eqb _ _ c.if-node-set.false))
    (sym c.all_words.ensures ∙ c.if-not-all_words.false))
