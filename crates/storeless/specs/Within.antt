-- What the storeless root's functions presume: n nodes of level j from node i on are of the tree over the leaves.
use Rattle.std.specs.Prelude.{◌≡◌, List, ℕ, ◌+◌, ◌*◌, ◌-◌, ◌^◌, ◌≤◌, length}
use Rattle.trees.specs.declared.Dimensions.{Dimensions}
use Rattle.trees.specs.Shapes.{ValidSet}

pub record Within (d : Dimensions) (C leaves : List ℕ) (j i n : ℕ) : Type 0 where
  pub set : ValidSet d C
  pub leaf_words : length leaves ≡ d.arity ^ d.height * d.node_size
  pub levels : j ≤ d.height
  pub nodes : i + n ≤ d.arity ^ (d.height - j)
  pub row : n ≤ d.arity
