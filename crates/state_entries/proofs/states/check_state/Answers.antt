use mathlib.Core.Path.{sym, ap, ◌∙◌}
use mathlib.Core.Bool.{not}
use borrow.Author.Tests.{eq-eqb, ne_eqb}
use Rattle.parameters.proofs.Accepted.{set-numbered}
use Rattle.state_entries.specs.Permutation.{state_refusals}
use Rattle.refusals.proofs.Answers.{front_returned}
use Rattle.refusals.proofs.LengthsAndWords.{at_10, at_12, at_none}
use Rattle.state_entries.proofs.states.check_state.Goals as goal

pub returns-in_err-check : goal.returns-in_err-check
unfolding state_refusals
returns-in_err-check c = front_returned _ _ _ _ c.from_residual.ensures.1 c.in_err-check.ensures

pub returns-then-state-set : goal.returns-then-state-set
unfolding state_refusals
returns-then-state-set c =
    sym (at_10 _ _ (set-numbered _) _ _ (sym c.in_ok-check.ensures) (ap not (ne_eqb _ _ c.if-state-set.true)))

pub returns-then-not-all_words : goal.returns-then-not-all_words
unfolding state_refusals
returns-then-not-all_words c =
    sym (at_12 _ _ (set-numbered _) _ _ (sym c.in_ok-check.ensures) (ap not (eq-eqb _ _ c.if-state-set.false))
    (sym c.all_words.ensures ∙ c.if-not-all_words.true))

pub returns : goal.returns
unfolding state_refusals
returns c =
    sym (at_none _ _ (set-numbered _) _ _ (sym c.in_ok-check.ensures) (ap not (eq-eqb _ _ c.if-state-set.false))
    (sym c.all_words.ensures ∙ c.if-not-all_words.false))
