use mathlib.Core.Path.{◌≡◌, sym, ap, ◌∙◌}
use mathlib.Core.Bool.{false, not, ◌&&◌}
use mathlib.Core.List.{[], ◌∷◌}
use borrow.Author.Tests.{eq-eqb, ne_eqb, lt-ltb, le-ltb}
use Rattle.modular.specs.Arithmetic.{all_words}
use Rattle.refusals.specs.Table.{not_words, first_refusal}
use Rattle.refusals.proofs.Answers.{front_returned}
use Rattle.refusals.proofs.LengthsAndWords.{first_bad, second_bad, both_good}
use Rattle.refusals.proofs.LengthsPlacesAndWords.{at_10, at_11, at_words, twelve, no_twelve}
use Rattle.parameters.specs.ParameterSet.{prime_of}
use Rattle.parameters.proofs.Accepted.{set-numbered}
use Rattle.merkle.specs.Openings.{opening}
use Rattle.trees.specs.SetTrees.{tree_of_set, store_words, opening_words}
use Rattle.trees.proofs.SetTrees.{same_size}
use Rattle.trees.proofs.SetTrees as tree_of
use Rattle.tree_entries.specs.Trees.{has, open_refusals}
use Rattle.tree_entries.proofs.openings.check_open.Goals as goal
use Rattle.tree_entries.proofs.openings.check_open.Goals.{After-opening_is_words, Else-places-place, Else-siblings-opening_words}

pub returns-in_err-check : goal.returns-in_err-check
unfolding open_refusals
returns-in_err-check c = front_returned _ _ _ _ c.from_residual.ensures.1 c.in_err-check.ensures

pub returns-then-store-store_words : goal.returns-then-store-store_words
unfolding open_refusals
returns-then-store-store_words c =
    sym (at_10 _ _ (set-numbered _) _ _ _ (sym c.in_ok-check.ensures) (first_bad _ _ (ne_eqb _ _ (λ z. c.if-store-store_words.true (z ∙ sym c.store_words.ensures)))))

pub returns-then-siblings-opening_words : goal.returns-then-siblings-opening_words
unfolding open_refusals
returns-then-siblings-opening_words c =
    sym (at_10 _ _ (set-numbered _) _ _ _ (sym c.in_ok-check.ensures) (second_bad _ _ (eq-eqb _ _ (c.if-store-store_words.false ∙ c.store_words.ensures)) (ne_eqb _ _ (λ z. c.if-siblings-opening_words.true (z ∙ sym c.opening_words.ensures)))))

-- what each test shows of what was handed in
lengths : (m : Else-siblings-opening_words) → let a = m.args in not (has a.store.now (store_words a.set) && has a.siblings.now (opening_words a.set)) ≡ false
lengths m = both_good _ _ (eq-eqb _ _ (m.if-store-store_words.false ∙ m.store_words.ensures)) (eq-eqb _ _ (m.if-siblings-opening_words.false ∙ m.opening_words.ensures))

pub returns-then-places-place : goal.returns-then-places-place
unfolding open_refusals
returns-then-places-place c =
    sym (at_11 _ _ (set-numbered _) _ _ _ (sym c.in_ok-check.ensures) (lengths (goal.at.returns-then-places-place c).Else-siblings-opening_words) (ap not (le-ltb _ _ (rw c.places.ensures at c.if-places-place.true))))

pub opening_is_words-requires : goal.opening_is_words-requires
opening_is_words-requires c =
    rw c.dimensions-d.ensures
    (tree_of.valid_numbers _ (sym c.in_ok-check.ensures), λ D C. c.if-store-store_words.false ∙ c.store_words.ensures ∙ same_size _ _ _ D C, rw c.places.ensures at c.if-places-place.false)

-- where these pass, the words of the opening decide
behind : (q : Else-places-place)
    → let a = q.args in first_refusal (open_refusals a.set a.store.now a.place a.siblings.now) ≡ first_refusal (not_words (prime_of a.set) (opening (tree_of_set a.set) a.set.height a.place a.store.now) ∷ [])
unfolding open_refusals
behind q =
    at_words _ _ (set-numbered _) _ _ _ (sym q.in_ok-check.ensures)
    (both_good _ _ (eq-eqb _ _ (q.if-store-store_words.false ∙ q.store_words.ensures)) (eq-eqb _ _ (q.if-siblings-opening_words.false ∙ q.opening_words.ensures)))
    (ap not (lt-ltb _ _ (rw q.places.ensures at q.if-places-place.false)))

words : (w : After-opening_is_words)
    → let a = w.args in all_words (prime_of a.set) (opening (tree_of_set a.set) a.set.height a.place a.store.now) ≡ w.opening_is_words.result
words w =
    let s = w.args.set in
    sym (rw w.dimensions-d.ensures at (w.opening_is_words.ensures s.diagonal s.constants))

pub returns-then-not-opening_is_words : goal.returns-then-not-opening_is_words
returns-then-not-opening_is_words c = sym (behind (goal.at.returns-then-not-opening_is_words c).Else-places-place ∙ twelve _ _ (words (goal.at.returns-then-not-opening_is_words c).After-opening_is_words ∙ c.if-not-opening_is_words.true))

pub returns : goal.returns
returns c = sym (behind (goal.at.returns c).Else-places-place ∙ no_twelve _ _ (words (goal.at.returns c).After-opening_is_words ∙ c.if-not-opening_is_words.false))
