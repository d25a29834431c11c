-- One node rewritten and counted, replacements and pushes (Rules 5.1 to 5.4). Refusals stand elsewhere.
use Rattle.std.specs.Prelude.{List, [], ◌∷◌, ℕ, zero, suc, ◌+◌, ◌*◌}
use Rattle.merkle.specs.Lists.{put}
use Rattle.merkle.specs.Levels.{Shape, row, start, stored_level}
use Rattle.merkle.specs.Openings.{over}
use Rattle.merkle.specs.Above.{above_at, nodes_above}

-- a store and the compressions made so far
pub record Counted : Type 0 where
  pub store : List ℕ
  pub made : ℕ

-- a place and the leaf that is to stand there
pub record Change : Type 0 where
  pub place : ℕ
  pub leaf : List ℕ

-- the places, in order
unfoldable pub places_of : List Change → List ℕ
places_of [] = []
places_of (c ∷ cs) = c.place ∷ places_of cs

module _ (S : Shape) where
  open S use {arity as k, node_size as l, compress}

  -- The compression of row i of level j is written as node i of the level above, and the count goes up by one (Rules 5.1).
  unfoldable pub rewrite_node : ℕ → ℕ → ℕ → Counted → Counted
  rewrite_node h j i s =
      record {
        store = put s.store (start S h (suc j) + i * l) (compress (row S i (stored_level S h s.store j)));
        made = s.made + 1;
      }

  -- the first j nodes above the place q, from below
  unfoldable pub climb : ℕ → ℕ → ℕ → Counted → Counted
  climb h q zero s = s
  climb h q (suc j) s = rewrite_node h j (over S q (suc j)) (climb h q j s)

  -- A replacement: the leaf is written at its place, then the nodes above it up to the root (Rules 5.2).
  unfoldable pub replace_from : ℕ → ℕ → List ℕ → Counted → Counted
  replace_from h q leaf s = climb h q h (record { store = put s.store (q * l) leaf; made = s.made })

  -- the same, with the count begun at 0
  unfoldable pub replace : ℕ → ℕ → List ℕ → List ℕ → Counted
  replace h q leaf store = replace_from h q leaf (record { store = store; made = 0 })

  -- The changes done singly, in order, each by a replacement of its own: the store that they leave.
  unfoldable pub singly : ℕ → List Change → List ℕ → List ℕ
  singly h [] store = store
  singly h (c ∷ cs) store = singly h cs (replace h c.place c.leaf store).store

  -- A push leaves that store, and its count is the number of different nodes above the places (Rules 5.4).
  unfoldable pub push : ℕ → List Change → List ℕ → Counted
  push h cs store = record { store = singly h cs store; made = nodes_above k h (places_of cs) }

  -- the leaves, each change's leaf put to its place, in order
  unfoldable pub changed : List Change → List ℕ → List ℕ
  changed [] leaves = leaves
  changed (c ∷ cs) leaves = changed cs (put leaves (c.place * l) c.leaf)

  -- ---- level by level, each node above the places once

  -- nodes of level j + 1 rewritten one after another, by the one function
  unfoldable pub rewrite_all : ℕ → ℕ → List ℕ → Counted → Counted
  rewrite_all h j [] s = s
  rewrite_all h j (i ∷ is) s = rewrite_all h j is (rewrite_node h j i s)

  -- the different nodes above the places, of levels 1 to j, from below
  unfoldable pub levelwise : ℕ → List ℕ → ℕ → Counted → Counted
  levelwise h qs zero s = s
  levelwise h qs (suc j) s = rewrite_all h j (above_at k qs (suc j)) (levelwise h qs j s)
