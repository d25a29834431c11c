-- The tree of a set that is accepted: what the tree's work is handed.
use mathlib.Core.Path.{◌≡◌, refl, ap, ◌∙◌}
use mathlib.Core.List.{List}
use Prim.Native.Nat.{ℕ, ◌+◌, ◌*◌, ◌-◌, ◌/◌, ◌^◌, ◌≤◌}
use native.Mathlib.Nat.{div-add-mod', div-le_self, mul-le-mul, mul-le-mul_right, one-le-pow}
use native.Mathlib.Omega.{arith}
use lib.ListN.{length, length-drop}
use Rattle.refusals.specs.Table.{first_refusal}
use Rattle.parameters.specs.declared.ParameterSet.{ParameterSet}
use Rattle.parameters.specs.ParameterSet.{set_refusals}
use Rattle.parameters.proofs.Accepted.{Numbers}
use Rattle.merkle.specs.Levels.{Regular, nodes_before, start, size, build, root}
use Rattle.merkle.specs.Storeless.{storeless_root}
use Rattle.merkle.specs.Numbering.{inner}
use Rattle.merkle.specs.Statements.{TreeLaws}
use Rattle.merkle.proofs.Numbering.{numbered}
use Rattle.merkle.proofs.Statements.{tree_laws}
use Rattle.trees.specs.Shapes.{ValidNumbers, ValidSet, tree}
use Rattle.trees.specs.declared.Dimensions.{Dimensions}
use Rattle.trees.proofs.Shapes.{regular}
use Rattle.trees.specs.SetTrees.{dimensions_of, tree_of_set, leaf_words, store_words}
use Rattle.parameters.proofs.AcceptedSets as sets

module _ (s : ParameterSet) (none : first_refusal (set_refusals s) ≡ 0) where
  numbers : Numbers s.width s.node_size s.height s.full_rounds s.partial_rounds
  unfolding set_refusals
  numbers = sets.numbers s none

  pub size_positive : s.node_size ≡ 0 → ⊥
  size_positive = numbers.node_size.positive

  pub width_fits : s.width ≤ 12
  width_fits = Rattle.parameters.proofs.Accepted.width_fits s.width numbers.width

  pub size_fits : s.node_size ≤ s.width
  size_fits = sets.node_size_fits s none

  -- l divides t, so the arity times l is t
  pub width_is : s.width / s.node_size * s.node_size ≡ s.width
  width_is = omega (arith, div-add-mod' s.width s.node_size, numbers.node_size.divides)

  pub valid_numbers : ValidNumbers (dimensions_of s)
  unfolding set_refusals
  valid_numbers = record {
    width = rw width_is numbers.width;
    several = numbers.node_size.several;
    low = numbers.height.low;
    few = numbers.height.leaves;
    some_rounds = sets.half_some s none;
    full_rounds = sets.half_few s none;
    partial_rounds = numbers.rounds.few_partial;
  }

  pub valid_set : ValidSet (dimensions_of s) s.constants
  unfolding set_refusals
  valid_set = record {
    numbers = valid_numbers;
    words = rw width_is (sets.used_constants_lem s none);
  }

  -- products of the tree's numbers fit 64 bits
  pub leaf_words_fit : (s.width / s.node_size) ^ s.height * s.node_size ≤ 51539607552
  leaf_words_fit = mul-le-mul {m₁ = s.node_size} {m₂ = 12} numbers.height.leaves (omega (arith, size_fits, width_fits))

  pub arity_few : s.width / s.node_size ≤ 12
  arity_few = omega (arith, div-le_self s.width s.node_size, width_fits)

  pub arity_some : 1 ≤ s.width / s.node_size
  arity_some = omega (arith, numbers.node_size.several)

  pub shape_regular : Regular (tree_of_set s)
  shape_regular = regular valid_numbers s.diagonal s.constants

  -- a store has a node at least
  pub node_in_store : s.node_size ≤ store_words s
  node_in_store =
      let one : 1 ≤ (s.width / s.node_size) ^ s.height + inner (tree_of_set s) s.height =
      omega (arith, one-le-pow s.height (s.width / s.node_size) arity_some) in
      rw ((numbered (tree_of_set s) shape_regular).words s.height) (omega (arith, mul-le-mul_right s.node_size one))

-- what the numbers of an accepted set are
pub ruleset accepted = (valid_numbers, arity_some, arity_few, size_positive, size_fits, width_fits, leaf_words_fit)

-- merkle's laws of the set's tree
pub laws : (s : ParameterSet) → first_refusal (set_refusals s) ≡ 0 → TreeLaws (tree_of_set s)
laws s none = tree_laws (tree_of_set s) (shape_regular s none)

-- a root is a node, with a store and without
pub root_long : (s : ParameterSet) → first_refusal (set_refusals s) ≡ 0 → (store : List ℕ) → length store ≡ store_words s → length (root (tree_of_set s) store) ≡ s.node_size
unfolding root
root_long s none store e =
    let l = node_in_store s none in
    length-drop (length store - s.node_size) store ∙ omega arith

pub storeless_long : (s : ParameterSet) → first_refusal (set_refusals s) ≡ 0 → (leaves : List ℕ) → length leaves ≡ leaf_words s
    → length (storeless_root (tree_of_set s) s.height leaves) ≡ s.node_size
storeless_long s none leaves e =
    ap length ((laws s none).storeless.agrees s.height leaves e)
    ∙ root_long s none (build (tree_of_set s) s.height leaves) ((laws s none).building s.height leaves e).is_store.whole

-- a store's size owes nothing to what compresses its rows
pub same_size : (d : Dimensions) (D C E F : List ℕ) → size (tree d D C) d.height ≡ size (tree d E F) d.height
unfolding size start nodes_before
same_size d D C E F = refl
