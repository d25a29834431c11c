-- Nodes, rows and levels, the store that building writes, and its root (Rules 4.2 to 4.6).
-- A level is the flat list of its nodes, l words each; the compression is any function of a row of t = k × l words.
use Rattle.std.specs.Prelude.{◌≡◌, true, List, ℕ, zero, suc, ◌*◌, ◌-◌, ◌^◌, ◌≤◌, ◌<◌, length, drop}
use Rattle.modular.specs.Arithmetic.{all_words}
use Rattle.merkle.specs.Lists.{part, joined, sum}

-- The arity k, the node size l, and the compression of a row.
pub record Shape : Type 0 where
  pub arity : ℕ
  pub node_size : ℕ
  pub compress : List ℕ → List ℕ

-- What is asked of a shape: a row has two nodes or more, a node one word or more, and the compression of a row is a node.
pub record Regular (S : Shape) : Type 0 where
  pub several : 2 ≤ S.arity
  pub nonempty : 0 < S.node_size
  pub sized : (row : List ℕ) → length row ≡ S.arity * S.node_size → length (S.compress row) ≡ S.node_size

-- And modulo p: of words it gives words.
pub record KeepsWords (p : ℕ) (S : Shape) : Type 0 where
  pub words : (row : List ℕ) → length row ≡ S.arity * S.node_size → all_words p row ≡ true → all_words p (S.compress row) ≡ true

module _ (S : Shape) where
  open S use {arity as k, node_size as l, compress}

  -- n nodes, l numbers each
  abbrev pub Nodes : ℕ → List ℕ → Type 0
  Nodes n xs = length xs ≡ n * l

  -- node i of a level
  abbrev pub node : ℕ → List ℕ → List ℕ
  node i level = part (i * l) l level

  -- row i of a level: nodes k × i to k × i + k - 1, t words
  abbrev pub row : ℕ → List ℕ → List ℕ
  row i level = part (i * (k * l)) (k * l) level

  -- the n nodes above a level, each the compression of its row (Rules 4.3)
  unfoldable pub above : ℕ → List ℕ → List ℕ
  above n level = joined (λ i. compress (row i level)) n

  -- the nodes of level j in a tree of height h
  abbrev pub count : ℕ → ℕ → ℕ
  count h j = k ^ (h - j)

  -- level j: the leaves, or else the nodes above the level below
  unfoldable pub level : ℕ → List ℕ → ℕ → List ℕ
  level h leaves zero = leaves
  level h leaves (suc j) = above (count h (suc j)) (level h leaves j)

  -- the store: its levels one after the other
  unfoldable pub build : ℕ → List ℕ → List ℕ
  build h leaves = joined (level h leaves) (suc h)

  -- the nodes that stand before level j in a store of height h, and the words
  unfoldable pub nodes_before : ℕ → ℕ → ℕ
  nodes_before h j = sum (count h) j

  unfoldable pub start : ℕ → ℕ → ℕ
  start h j = nodes_before h j * l

  -- the words of a store
  unfoldable pub size : ℕ → ℕ
  size h = start h (suc h)

  -- level j as it stands in a store
  unfoldable pub stored_level : ℕ → List ℕ → ℕ → List ℕ
  stored_level h store j = part (start h j) (count h j * l) store

  -- the root, the last node (Rules 4.6)
  unfoldable pub root : List ℕ → List ℕ
  root store = drop (length store - l) store
