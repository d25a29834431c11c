-- The nodes numbered through the whole store, w = k^h leaves first: node w + n compresses row n of the store, the k nodes from k × n on,
-- and the node above node f is w + f / k. So building is one loop over n, and a climb needs no level.
-- Nothing here has to be believed: the laws of `Numbered` equate each form with the plain one, which says the rules.
use Rattle.std.specs.Prelude.{◌≡◌, List, ℕ, zero, suc, ◌+◌, ◌*◌, ◌/◌, ◌%◌, ◌^◌, ◌≤◌, ◌<◌, length}
use Rattle.merkle.specs.Lists.{put, joined, sum}
use Rattle.merkle.specs.Levels.{Shape, Nodes, node, row, count, build, size}
use Rattle.merkle.specs.Openings.{without, opening}
use Rattle.merkle.specs.Replacement.{Counted, climb}

module _ (S : Shape) where
  open S use {arity as k, node_size as l, compress}

  -- the rows that stand before level j in a store of height h; the nodes above the leaves
  unfoldable pub rows_before : ℕ → ℕ → ℕ
  rows_before h j = sum (λ i. count S h (suc i)) j

  unfoldable pub inner : ℕ → ℕ
  inner h = rows_before h h

  -- row n of the store is compressed and written as node w + n, and counted
  unfoldable pub write_node : ℕ → ℕ → Counted → Counted
  write_node w n s = record { store = put s.store ((w + n) * l) (compress (row S n s.store)); made = s.made + 1 }

  -- the first n nodes above the leaves, one by one
  unfoldable pub fill : ℕ → ℕ → Counted → Counted
  fill w zero s = s
  fill w (suc n) s = write_node w n (fill w n s)

  -- the number of the node of level j over the place q
  unfoldable pub number_of : ℕ → ℕ → ℕ → ℕ
  number_of w q zero = q
  number_of w q (suc j) = w + number_of w q j / k

  -- the first j nodes above the place q
  unfoldable pub ascend : ℕ → ℕ → ℕ → Counted → Counted
  ascend w q zero s = s
  ascend w q (suc j) s = write_node w (number_of w q j / k) (ascend w q j s)

  -- the siblings of the first j nodes from the place q on
  unfoldable pub gather : ℕ → ℕ → List ℕ → ℕ → List ℕ
  gather w q store j = joined (λ i. without S (number_of w q i % k) (row S (number_of w q i / k) store)) j

-- The numbered forms are the plain ones.
pub record Numbered (S : Shape) : Type 0 where
  pub words : (h : ℕ) → size S h ≡ (S.arity ^ h + inner S h) * S.node_size
  pub node : (h : ℕ) (leaves : List ℕ) → Nodes S (S.arity ^ h) leaves → (n : ℕ) → n < inner S h
      → node S (S.arity ^ h + n) (build S h leaves) ≡ S.compress (row S n (build S h leaves))
  -- the leaves copied into any store, and the nodes above written one by one: what building writes
  pub filled : (h : ℕ) (leaves old : List ℕ) (c : ℕ) → Nodes S (S.arity ^ h) leaves → length old ≡ size S h
      → (fill S (S.arity ^ h) (inner S h) (record { store = put old 0 leaves; made = c })).store ≡ build S h leaves
  pub climbed : (h q j : ℕ) (s : Counted) → q < S.arity ^ h → j ≤ h → length s.store ≡ size S h
      → climb S h q j s ≡ ascend S (S.arity ^ h) q j s
  pub gathered : (h q : ℕ) (store : List ℕ) → q < S.arity ^ h → length store ≡ size S h
      → opening S h q store ≡ gather S (S.arity ^ h) q store h
