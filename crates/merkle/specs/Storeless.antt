-- The storeless root (Rules 7.4).
use Rattle.std.specs.Prelude.{List, ℕ, zero, suc, ◌+◌, ◌*◌}
use Rattle.merkle.specs.Lists.{joined}
use Rattle.merkle.specs.Levels.{Shape, node}

module _ (S : Shape) where
  open S use {arity as k, compress}

  -- Node i of level j, from the leaves alone: a leaf, or else the compression of the row beneath it, the k nodes from k × i on.
  unfoldable pub node_of : List ℕ → ℕ → ℕ → List ℕ
  node_of leaves zero i = node S i leaves
  node_of leaves (suc j) i = compress (joined (λ c. node_of leaves j (k * i + c)) k)

  -- n nodes of level j from node i on; with n = k, a row
  unfoldable pub row_of : List ℕ → ℕ → ℕ → ℕ → List ℕ
  row_of leaves j i n = joined (λ c. node_of leaves j (i + c)) n

  unfoldable pub storeless_root : ℕ → List ℕ → List ℕ
  storeless_root h leaves = node_of leaves h 0
