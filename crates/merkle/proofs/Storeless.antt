-- The storeless root is the root of the built store.
use mathlib.Core.Path.{◌≡◌, refl, sym, ap, ◌∙◌}
use mathlib.Core.List.{List, [], ◌++◌}
use Prim.Native.Nat.{ℕ, zero, suc, ◌+◌, ◌*◌, ◌^◌, ◌≤◌, ◌<◌}
use native.Mathlib.Nat.{zero-mul}
use native.Mathlib.Omega.{arith}
use lib.ListN.{length}
use Rattle.merkle.specs.Lists.{part, joined}
use Rattle.merkle.specs.Levels.{Shape, Regular, Nodes, node, count, level, build, root}
use Rattle.merkle.specs.Storeless.{node_of, row_of, storeless_root}
use Rattle.merkle.proofs.Lists.{joined_same, part_whole}
use Rattle.merkle.proofs.Levels.{count_down, count_root, child_below, row_nodes, level_node, root_level_lem, root_build, length-node, level_nodes}

module _ (S : Shape) where
  open S use {arity as k, node_size as l, compress}

  -- nodes from rows, and rows from nodes (Rules 7.4)
  pub node_from_row : (leaves : List ℕ) (j i : ℕ) → node_of S leaves (suc j) i ≡ compress (row_of S leaves j (k * i) k)
  unfolding node_of row_of
  node_from_row leaves j i = refl

  pub row_from_none : (leaves : List ℕ) (j i : ℕ) → row_of S leaves j i 0 ≡ []
  unfolding row_of joined
  row_from_none leaves j i = refl

  pub row_from_nodes : (leaves : List ℕ) (j i n : ℕ) → row_of S leaves j i (suc n) ≡ row_of S leaves j i n ++ node_of S leaves j (i + n)
  unfolding row_of joined
  row_from_nodes leaves j i n = refl

  module _ (G : Regular S) (h : ℕ) (leaves : List ℕ) (N : Nodes S (k ^ h) leaves) where
    pub node_of_level : (j i : ℕ) → j ≤ h → i < count S h j → node_of S leaves j i ≡ node S i (level S h leaves j)
    unfolding node_of level
    node_of_level zero i b c = refl
    node_of_level (suc j) i b c =
        ap compress
        (joined_same (λ c. node_of S leaves j (k * i + c)) (λ c. node S (k * i + c) (level S h leaves j)) k
        (λ a d. node_of_level j (k * i + a) (omega arith) (below a d))
        ∙ row_nodes S G i (level S h leaves j))
        ∙ sym (level_node S G h leaves N j i b c)
      where
        below : (a : ℕ) → a < k → k * i + a < count S h j
        below a d = omega (arith, child_below S G (count S h (suc j)) i a c d, count_down S G h j b)

    pub length-node_of : (j i : ℕ) → j ≤ h → i < count S h j → length (node_of S leaves j i) ≡ l
    length-node_of j i b c = ap length (node_of_level j i b c) ∙ length-node S G (count S h j) i (level S h leaves j) c (level_nodes S G h leaves N j b)

    pub storeless_root_lem : storeless_root S h leaves ≡ root S (build S h leaves)
    unfolding storeless_root
    storeless_root_lem =
        node_of_level h 0 (omega arith) (omega (arith, count_root S G h))
        ∙ ap (λ (a : ℕ). part a l (level S h leaves h)) (zero-mul l)
        ∙ part_whole l (level S h leaves h) (root_level_lem S G h leaves N)
        ∙ sym (root_build S G h leaves N)
