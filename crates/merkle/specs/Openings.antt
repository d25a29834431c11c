-- The opening of a place, and the path from a leaf to the root (Rules 4.7 to 4.11).
use Rattle.std.specs.Prelude.{Bool, List, ◌++◌, ℕ, zero, suc, ◌+◌, ◌*◌, ◌-◌, ◌/◌, ◌%◌, ◌^◌, take, drop}
use Rattle.merkle.specs.Lists.{part, joined, same}
use Rattle.merkle.specs.Levels.{Shape, row, stored_level}

module _ (S : Shape) where
  open S use {arity as k, node_size as l, compress}

  -- the node of level j over the place q, and its position in its row (Rules 4.8)
  abbrev pub over : ℕ → ℕ → ℕ
  over q j = q / k ^ j

  abbrev pub child : ℕ → ℕ → ℕ
  child q j = over q j % k

  -- a row without its node c: the siblings, in their order
  unfoldable pub without : ℕ → List ℕ → List ℕ
  without c nodes = take (c * l) nodes ++ drop (c * l + l) nodes

  -- the words of a level's siblings
  abbrev pub sibling_size : ℕ
  sibling_size = (k - 1) * l

  -- the part for level j of the opening of place q, and the opening (Rules 4.7)
  unfoldable pub opening_at : ℕ → ℕ → List ℕ → ℕ → List ℕ
  opening_at h q store j = without (child q j) (row S (over q j / k) (stored_level S h store j))

  unfoldable pub opening : ℕ → ℕ → List ℕ → List ℕ
  opening h q store = joined (opening_at h q store) h

  -- the part for level j of any sibling words
  unfoldable pub siblings_at : List ℕ → ℕ → List ℕ
  siblings_at siblings j = part (j * sibling_size) sibling_size siblings

  -- the row of its siblings and its node c
  unfoldable pub put_back : ℕ → List ℕ → List ℕ → List ℕ
  put_back c own siblings = take (c * l) siblings ++ (own ++ drop (c * l) siblings)

  -- the row of level j with `own` as the node over the place q
  unfoldable pub row_with : ℕ → List ℕ → ℕ → List ℕ → List ℕ
  row_with q siblings j own = put_back (child q j) own (siblings_at siblings j)

  -- the path's node at level j (Rules 4.10)
  unfoldable pub path_node : ℕ → List ℕ → List ℕ → ℕ → List ℕ
  path_node q leaf siblings zero = leaf
  path_node q leaf siblings (suc j) = compress (row_with q siblings j (path_node q leaf siblings j))

  -- the path's row at level j, whose compression is the next node
  unfoldable pub path_row : ℕ → List ℕ → List ℕ → ℕ → List ℕ
  path_row q leaf siblings j = row_with q siblings j (path_node q leaf siblings j)

  -- the path's node at level h is the root (Rules 4.11)
  unfoldable pub accepts : ℕ → List ℕ → ℕ → List ℕ → List ℕ → Bool
  accepts h root q leaf siblings = same (path_node q leaf siblings h) root
