-- Records as changes of a tree: their places, their leaves' lengths and words.
use mathlib.Core.Path.{◌≡◌, refl, sym, ap, ◌∙◌}
use mathlib.Core.Bool.{true}
use mathlib.Core.List.{List, [], ◌∷◌}
use Prim.Native.Nat.{ℕ, zero, suc, ◌≤◌}
use native.Mathlib.Nat.{mul-le-mul_right}
use native.Mathlib.Omega.{arith}
use lib.Dec.{ltb}
use lib.ListN.{length, take}
use lib.Seq.{length-take-le}
use borrow.Author.Tests.{ltb-true}
use Rattle.modular.specs.Arithmetic.{all_words}
use Rattle.modular.proofs.Words.{left_true, right_true, words_both}
use Rattle.refusals.specs.Table.{first_refusal}
use Rattle.parameters.specs.declared.ParameterSet.{ParameterSet}
use Rattle.parameters.specs.ParameterSet.{set_refusals}
use Rattle.merkle.specs.Replacement as changes
use Rattle.merkle.specs.Statements.{Proper, Fitting, LeafWords}
use Rattle.trees.specs.SetTrees.{tree_of_set, leaf_count}
use Rattle.trees.proofs.SetTrees as tree_of
use Rattle.records.specs.declared.record.Record.{Record}
use Rattle.records.specs.Records.{leaf_of, changes_of, places_of, places_below, used_words, SixWords}

pub changes_places : (l : ℕ) (rs : List Record) → changes.places_of (changes_of l rs) ≡ places_of rs
unfolding changes_of places_of changes.places_of
changes_places l [] = refl
changes_places l (r ∷ rs) = ap (λ (qs : List ℕ). r.place ∷ qs) (changes_places l rs)

pub changes_words : (p l : ℕ) (rs : List Record) → all_words p (used_words l rs) ≡ true → LeafWords p (changes_of l rs)
unfolding changes_of used_words
changes_words p l [] e = tt
changes_words p l (r ∷ rs) e =
    let f = sym (words_both p (leaf_of l r) (used_words l rs)) ∙ e in
    (left_true (all_words p (leaf_of l r)) (all_words p (used_words l rs)) f, changes_words p l rs (right_true (all_words p (leaf_of l r)) (all_words p (used_words l rs)) f))

-- a leaf is among a record's six words
pub leaf_in_record : (s : ParameterSet) → first_refusal (set_refusals s) ≡ 0 → s.node_size ≤ 6
leaf_in_record s none =
    omega (arith, mul-le-mul_right s.node_size (tree_of.valid_numbers s none).several, tree_of.width_is s none, tree_of.width_fits s none)

take-most : (l : ℕ) (xs : List ℕ) → length (take l xs) ≤ l
take-most zero xs = omega arith
take-most (suc l) [] = omega arith
take-most (suc l) (x ∷ xs) = omega (arith, take-most l xs)

pub changes_fit : (s : ParameterSet) (rs : List Record) → places_below (leaf_count s) rs ≡ true → Fitting (tree_of_set s) s.height (changes_of s.node_size rs)
unfolding changes_of places_below
changes_fit s [] e = tt
changes_fit s (r ∷ rs) e =
    let a = left_true (ltb r.place (leaf_count s)) (places_below (leaf_count s) rs) e in
    let b = right_true (ltb r.place (leaf_count s)) (places_below (leaf_count s) rs) e in
    (ltb-true r.place (leaf_count s) a, take-most s.node_size r.words, changes_fit s rs b)

pub length-places : (rs : List Record) → length (places_of rs) ≡ length rs
unfolding places_of
length-places [] = refl
length-places (r ∷ rs) = ap suc (length-places rs)

-- with six words in each record its leaf is whole
pub changes_proper : (s : ParameterSet) → s.node_size ≤ 6 → (rs : List Record) → SixWords rs → places_below (leaf_count s) rs ≡ true
    → Proper (tree_of_set s) s.height (changes_of s.node_size rs)
unfolding changes_of places_below
changes_proper s b [] S e = tt
changes_proper s b (r ∷ rs) S e =
    let f = left_true (ltb r.place (leaf_count s)) (places_below (leaf_count s) rs) e in
    let g = right_true (ltb r.place (leaf_count s)) (places_below (leaf_count s) rs) e in
    (ltb-true r.place (leaf_count s) f, length-take-le s.node_size r.words (omega (arith, S.0)), changes_proper s b rs S.1 g)
