use mathlib.Core.Path.{◌≡◌, sym, ap, ◌∙◌}
use mathlib.Core.Bool.{Bool, not}
use mathlib.Core.List.{List}
use Prim.Native.Nat.{ℕ}
use borrow.Author.Tests.{eq-eqb, ne_eqb, lt-ltb, le-ltb}
use Rattle.modular.specs.Arithmetic.{all_words}
use Rattle.modular.proofs.Words.{words_append}
use Rattle.refusals.proofs.Answers.{front_returned}
use Rattle.refusals.proofs.LengthsAndWords.{first_bad, second_bad, both_good}
use Rattle.refusals.proofs.LengthsPlacesAndWords.{at_10, at_11, at_words, twelve, no_twelve, left_not_words, right_not_words}
use Rattle.parameters.specs.declared.ParameterSet.{ParameterSet}
use Rattle.parameters.specs.ParameterSet.{prime_of}
use Rattle.parameters.proofs.Accepted.{set-numbered}
use Rattle.merkle.specs.Openings.{opening}
use Rattle.trees.specs.Shapes.{prime_of_tree, tree}
use Rattle.trees.specs.declared.Dimensions.{Dimensions}
use Rattle.trees.proofs.SetTrees.{same_size, valid_numbers}
use Rattle.trees.specs.SetTrees.{dimensions_of, tree_of_set}
use Rattle.change_entries.specs.Replacement.{replace_refusals}
use Rattle.change_entries.proofs.replacement.check_replace.Goals as goal

-- the test of the stored siblings is of the set's own tree
stored : (s : ParameterSet) (q : ℕ) (store : List ℕ) (d : Dimensions) {b : Bool} → d ≡ dimensions_of s
    → b ≡ all_words (prime_of_tree d) (opening (tree d s.diagonal s.constants) d.height q store) → b ≡ all_words (prime_of s) (opening (tree_of_set s) s.height q store)
stored s q store d e f = f ∙ ap (λ (x : Dimensions). all_words (prime_of_tree x) (opening (tree x s.diagonal s.constants) x.height q store)) e

pub returns-in_err-check : goal.returns-in_err-check
unfolding replace_refusals
returns-in_err-check c = front_returned _ _ _ _ c.from_residual.ensures.1 c.in_err-check.ensures

pub returns-then-store-store_words : goal.returns-then-store-store_words
unfolding replace_refusals
returns-then-store-store_words c =
    sym (at_10 _ _ (set-numbered _) _ _ _ (sym c.in_ok-check.ensures) (first_bad _ _ (ne_eqb _ _ (λ z. c.if-store-store_words.true (z ∙ sym c.store_words.ensures)))))

pub returns-then-leaf-set : goal.returns-then-leaf-set
unfolding replace_refusals
returns-then-leaf-set c =
    sym (at_10 _ _ (set-numbered _) _ _ _ (sym c.in_ok-check.ensures) (second_bad _ _ (eq-eqb _ _ (c.if-store-store_words.false ∙ c.store_words.ensures)) (ne_eqb _ _ c.if-leaf-set.true)))

pub returns-then-places-place : goal.returns-then-places-place
unfolding replace_refusals
returns-then-places-place c =
    sym (at_11 _ _ (set-numbered _) _ _ _ (sym c.in_ok-check.ensures) (both_good _ _ (eq-eqb _ _ (c.if-store-store_words.false ∙ c.store_words.ensures)) (eq-eqb _ _ c.if-leaf-set.false)) (ap not (le-ltb _ _ (rw c.places.ensures at c.if-places-place.true))))

pub returns-then-not-all_words : goal.returns-then-not-all_words
unfolding replace_refusals
returns-then-not-all_words c =
    sym (at_words _ _ (set-numbered _) _ _ _ (sym c.in_ok-check.ensures) (both_good _ _ (eq-eqb _ _ (c.if-store-store_words.false ∙ c.store_words.ensures)) (eq-eqb _ _ c.if-leaf-set.false)) (ap not (lt-ltb _ _ (rw c.places.ensures at c.if-places-place.false)))
    ∙ twelve _ _ (left_not_words _ _ _ (sym c.all_words.ensures ∙ c.if-not-all_words.true)))

pub opening_is_words-requires : goal.opening_is_words-requires
opening_is_words-requires c =
    let v = valid_numbers _ (sym c.in_ok-check.ensures) in
    rw c.dimensions-d.ensures
    (v, λ D C. c.if-store-store_words.false ∙ c.store_words.ensures ∙ same_size _ _ _ D C, rw c.places.ensures at c.if-places-place.false)

pub returns-then-not-opening_is_words : goal.returns-then-not-opening_is_words
unfolding replace_refusals
returns-then-not-opening_is_words c =
    let a = c.args in
    let d = c.dimensions-d.ensures in
    sym (at_words _ _ (set-numbered _) _ _ _ (sym c.in_ok-check.ensures) (both_good _ _ (eq-eqb _ _ (c.if-store-store_words.false ∙ c.store_words.ensures)) (eq-eqb _ _ c.if-leaf-set.false)) (ap not (lt-ltb _ _ (rw c.places.ensures at c.if-places-place.false)))
    ∙ twelve _ _ (right_not_words _ a.leaf.now _ (sym (stored a.set a.place a.store.now _ d (c.opening_is_words.ensures a.set.diagonal a.set.constants)) ∙ c.if-not-opening_is_words.true)))

pub returns : goal.returns
unfolding replace_refusals
returns c =
    let a = c.args in
    let d = c.dimensions-d.ensures in
    sym (at_words _ _ (set-numbered _) _ _ _ (sym c.in_ok-check.ensures) (both_good _ _ (eq-eqb _ _ (c.if-store-store_words.false ∙ c.store_words.ensures)) (eq-eqb _ _ c.if-leaf-set.false)) (ap not (lt-ltb _ _ (rw c.places.ensures at c.if-places-place.false)))
    ∙ no_twelve _ _ (words_append _ _ _ (sym c.all_words.ensures ∙ c.if-not-all_words.false)
    (sym (stored a.set a.place a.store.now _ d (c.opening_is_words.ensures a.set.diagonal a.set.constants)) ∙ c.if-not-opening_is_words.false)))
