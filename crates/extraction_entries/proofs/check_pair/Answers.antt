use mathlib.Core.Path.{◌≡◌, sym, ap, ◌∙◌}
use mathlib.Core.Bool.{not}
use mathlib.Core.List.{[], ◌∷◌}
use borrow.Author.Tests.{lt-ltb, le-ltb}
use Rattle.refusals.specs.Table.{not_words, first_refusal}
use Rattle.refusals.proofs.Answers.{front_returned}
use Rattle.refusals.proofs.LengthsPlacesAndWords.{at_10, at_11, at_words, twelve, no_twelve}
use Rattle.parameters.specs.ParameterSet.{prime_of}
use Rattle.parameters.proofs.Accepted.{set-numbered}
use Rattle.extraction_entries.specs.Extraction.{pair_of, pair_words, pair_refusals}
use Rattle.extraction_entries.proofs.check_pair.Goals as goal
use Rattle.extraction_entries.proofs.check_pair.Goals.{Else-places-two}

pub returns-in_err-check : goal.returns-in_err-check
unfolding pair_refusals
returns-in_err-check c = front_returned _ _ _ _ c.from_residual.ensures.1 c.in_err-check.ensures

pub returns-then-not-lengths_fit : goal.returns-then-not-lengths_fit
unfolding pair_refusals
returns-then-not-lengths_fit c = sym (at_10 _ _ (set-numbered _) _ _ _ (sym c.in_ok-check.ensures) (ap not (sym c.lengths_fit.ensures ∙ c.if-not-lengths_fit.true)))

pub returns-then-places-two : goal.returns-then-places-two
unfolding pair_refusals
returns-then-places-two c =
    sym (at_11 _ _ (set-numbered _) _ _ _ (sym c.in_ok-check.ensures) (ap not (sym c.lengths_fit.ensures ∙ c.if-not-lengths_fit.false)) (ap not (le-ltb _ _ (rw c.places.ensures at c.if-places-two.true))))

-- where these pass, the words decide
behind : (c : Else-places-two)
    → let a = c.args in
    first_refusal (pair_refusals a.set (pair_of a.two) a.first_row.now a.second_row.now) ≡ first_refusal (not_words (prime_of a.set) (pair_words (pair_of a.two)) ∷ [])
unfolding pair_refusals
behind c =
    at_words _ _ (set-numbered _) _ _ _ (sym c.in_ok-check.ensures) (ap not (sym c.lengths_fit.ensures ∙ c.if-not-lengths_fit.false)) (ap not (lt-ltb _ _ (rw c.places.ensures at c.if-places-two.false)))

pub returns-then-not-is_words : goal.returns-then-not-is_words
returns-then-not-is_words c = sym (behind (goal.at.returns-then-not-is_words c).Else-places-two ∙ twelve _ _ (sym c.is_words.ensures ∙ c.if-not-is_words.true))

pub returns : goal.returns
returns c = sym (behind (goal.at.returns c).Else-places-two ∙ no_twelve _ _ (sym c.is_words.ensures ∙ c.if-not-is_words.false))
