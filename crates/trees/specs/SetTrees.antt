-- The tree of a parameter set, and its sizes.
use Rattle.std.specs.Prelude.{ℕ, ◌*◌, ◌-◌, ◌/◌, ◌^◌}
use Rattle.parameters.specs.ParameterSet.{prime_of}
use Rattle.parameters.specs.declared.ParameterSet.{ParameterSet}
use Rattle.merkle.specs.Levels.{Shape, size}
use Rattle.trees.specs.Shapes.{shape}
use Rattle.trees.specs.declared.Dimensions.{Dimensions}

-- The tree of a set: arity k = t / l, its rows compressed under the set (Rules 2.2, 4.1).
abbrev pub tree_of_set : ParameterSet → Shape
tree_of_set s = shape (prime_of s) s.width s.node_size (s.full_rounds / 2) s.partial_rounds s.diagonal s.constants

-- The set's numbers as the tree's work uses them.
abbrev pub dimensions_of : ParameterSet → Dimensions
dimensions_of s = record {
  arity = s.width / s.node_size;
  node_size = s.node_size;
  height = s.height;
  half = s.full_rounds / 2;
  partial_rounds = s.partial_rounds;
}

-- k^h leaves, and the words of the leaves, the store and an opening (Rules 4.2, 4.4, 4.7)
abbrev pub leaf_count : ParameterSet → ℕ
leaf_count s = (tree_of_set s).arity ^ s.height

abbrev pub leaf_words : ParameterSet → ℕ
leaf_words s = leaf_count s * s.node_size

abbrev pub store_words : ParameterSet → ℕ
store_words s = size (tree_of_set s) s.height

abbrev pub opening_words : ParameterSet → ℕ
opening_words s = s.height * (((tree_of_set s).arity - 1) * s.node_size)

-- the words of a level's part of an opening (Rules 4.7)
abbrev pub part_words : ParameterSet → ℕ
part_words s = ((tree_of_set s).arity - 1) * s.node_size
