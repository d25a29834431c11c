-- What is claimed of every tree, over any compression. The proofs give all of it for every regular shape.
use Rattle.std.specs.Prelude.{◌≡◌, ◌≢◌, ◌↔◌, true, cond, List, [], ◌∷◌, ◌++◌, map, ℕ, suc, ◌+◌, ◌*◌, ◌-◌, ◌/◌, ◌%◌, ◌^◌, ◌≤◌, ◌<◌, length}
use Rattle.std.proofs.Math.Option.{Option, none, some}
use Rattle.modular.specs.Arithmetic.{all_words}
use Rattle.repeats.specs.Repeats.{member}
use Rattle.merkle.specs.Lists.{put, sum}
use Rattle.merkle.specs.Levels.{Shape, Regular, KeepsWords, Nodes, node, row, count, build, size, stored_level, root}
use Rattle.merkle.specs.Storeless.{node_of, row_of, storeless_root}
use Rattle.merkle.specs.Openings.{over, without, opening, siblings_at, path_node, path_row, accepts}
use Rattle.merkle.specs.Above.{above_at, nodes_above}
use Rattle.merkle.specs.Replacement.{Change, places_of, replace, push, changed, levelwise}
use Rattle.merkle.specs.Extraction.{Collision, extract}

-- ---- building

-- What a store of these leaves is (Rules 4.3, 4.4): its size, its leaves, and that each node above them is the compression of its row.
pub record IsStore (S : Shape) (h : ℕ) (leaves store : List ℕ) : Type 0 where
  pub whole : length store ≡ size S h
  pub bottom : stored_level S h store 0 ≡ leaves
  pub each : (j i : ℕ) → j < h → i < count S h (suc j)
      → node S i (stored_level S h store (suc j)) ≡ S.compress (row S i (stored_level S h store j))

-- Building writes such a store, and there is one alone: nothing of a store's old contents is left.
pub record Building (S : Shape) (h : ℕ) (leaves : List ℕ) : Type 0 where
  pub is_store : IsStore S h leaves (build S h leaves)
  pub only : (store : List ℕ) → IsStore S h leaves store → store ≡ build S h leaves
  -- the root is the level of one node
  pub root_level : root S (build S h leaves) ≡ stored_level S h (build S h leaves) h

-- With no level above it, a leaf is the root (Rules 4.6).
abbrev pub LeafRoot : Shape → Type 0
LeafRoot S = (leaf : List ℕ) → length leaf ≡ S.node_size → root S (build S 0 leaf) ≡ leaf

-- ---- the storeless root

pub record Storeless (S : Shape) : Type 0 where
  -- a node from its row,
  pub from_row : (leaves : List ℕ) (j i : ℕ) → node_of S leaves (suc j) i ≡ S.compress (row_of S leaves j (S.arity * i) S.arity)
  -- and a row node by node (Rules 7.4)
  pub from_none : (leaves : List ℕ) (j i : ℕ) → row_of S leaves j i 0 ≡ []
  pub from_nodes : (leaves : List ℕ) (j i n : ℕ) → row_of S leaves j i (suc n) ≡ row_of S leaves j i n ++ node_of S leaves j (i + n)
  -- it is the root of the store that building writes
  pub agrees : (h : ℕ) (leaves : List ℕ) → Nodes S (S.arity ^ h) leaves → storeless_root S h leaves ≡ root S (build S h leaves)

-- ---- openings

-- The opening of a place in any store: its length, and its part for each level.
pub record Opened (S : Shape) (h q : ℕ) (store : List ℕ) : Type 0 where
  pub long : length (opening S h q store) ≡ h * ((S.arity - 1) * S.node_size)
  pub part : (j : ℕ) → j < h
      → siblings_at S (opening S h q store) j ≡ without S (q / S.arity ^ j % S.arity) (row S (q / S.arity ^ j / S.arity) (stored_level S h store j))

-- A place's own leaf and opening, read from a built store, end in its root.
pub record OwnOpening (S : Shape) (h q : ℕ) (leaves : List ℕ) : Type 0 where
  pub ends : path_node S q (node S q leaves) (opening S h q (build S h leaves)) h ≡ root S (build S h leaves)
  pub accepted : accepts S h (root S (build S h leaves)) q (node S q leaves) (opening S h q (build S h leaves)) ≡ true

-- What is accepted is what ends in the root, and nothing else (Rules 4.11).
abbrev pub Accepting : Shape → Type 0
Accepting S = (h : ℕ) (root : List ℕ) (q : ℕ) (leaf siblings : List ℕ) → (accepts S h root q leaf siblings ≡ true) ↔ (path_node S q leaf siblings h ≡ root)

-- ---- replacements and pushes

-- A replacement on a built store leaves the one built from the changed leaves, and its count is h.
pub record Replaced (S : Shape) (h q : ℕ) (leaves leaf : List ℕ) : Type 0 where
  pub stored : (replace S h q leaf (build S h leaves)).store ≡ build S h (put leaves (q * S.node_size) leaf)
  pub counted : (replace S h q leaf (build S h leaves)).made ≡ h

-- each place is below k^h, and each leaf has l words
abbrev pub Proper : Shape → ℕ → List Change → Type 0
Proper S h [] = Unit {0}
Proper S h (c ∷ cs) = (c.place < S.arity ^ h) × (length c.leaf ≡ S.node_size) × Proper S h cs

-- or l words at most
abbrev pub Fitting : Shape → ℕ → List Change → Type 0
Fitting S h [] = Unit {0}
Fitting S h (c ∷ cs) = (c.place < S.arity ^ h) × (length c.leaf ≤ S.node_size) × Fitting S h cs

-- So does a push.
abbrev pub Pushed : (S : Shape) (h : ℕ) (cs : List Change) (leaves : List ℕ) → Type 0
Pushed S h cs leaves = (push S h cs (build S h leaves)).store ≡ build S h (changed S cs leaves)

-- A push is made by the one function alone: it begins with the leaves written and the count 0, goes level by level, rewrites each node above the
-- places once and hands the count on. From every store of the right size, built or not, that leaves the push's store, which is the one that
-- the changes done singly leave, and the last count is the push's.
abbrev pub LevelByLevel : Shape → Type 0
LevelByLevel S =
    (h : ℕ) (cs : List Change) (store : List ℕ) → Fitting S h cs → length store ≡ size S h
    → levelwise S h (places_of cs) h (record { store = changed S cs store; made = 0 }) ≡ push S h cs store

-- The counts owe nothing to the store: h for a replacement, and for a push at most h for each record.
pub record Counts (S : Shape) : Type 0 where
  pub one : (h q : ℕ) (leaf store : List ℕ) → (replace S h q leaf store).made ≡ h
  pub most : (h : ℕ) (qs : List ℕ) → nodes_above S.arity h qs ≤ h * length qs
  pub single : (h q : ℕ) → nodes_above S.arity h (q ∷ []) ≡ h
  -- of the k^(h - j) nodes of level j those count over which a listed place stands
  pub each : (h j : ℕ) (qs : List ℕ) → j ≤ h → ((q : ℕ) → member q qs ≡ true → q < S.arity ^ h)
      → length (above_at S.arity qs j) ≡ sum (λ i. cond (member i (map (λ q. over S q j) qs)) 1 0) (count S h j)

-- A push of no record leaves the store, and its count is 0 (Rules 5.4).
abbrev pub EmptyPush : Shape → Type 0
EmptyPush S = (h : ℕ) (store : List ℕ) → push S h [] store ≡ record { store = store; made = 0 }

-- ---- extraction

-- The rows are of a level below h and collide; at no lower level do the rows of the two leaves.
pub record LowestCollision (S : Shape) (h q : ℕ) (a x b y : List ℕ) (c : Collision) : Type 0 where
  pub below : c.level < h
  pub first : c.first ≡ path_row S q a x c.level
  pub second : c.second ≡ path_row S q b y c.level
  pub differ : c.first ≢ c.second
  pub alike : S.compress c.first ≡ S.compress c.second
  pub lowest : (i : ℕ) → i < c.level → S.compress (path_row S q a x i) ≡ S.compress (path_row S q b y i) → path_row S q a x i ≡ path_row S q b y i

-- What is extracted is such a collision; where nothing is, the rows of the two leaves collide at no level.
abbrev pub Extracted : (S : Shape) (h q : ℕ) (a x b y : List ℕ) → Option Collision → Type 0
Extracted S h q a x b y none =
    (i : ℕ) → i < h → S.compress (path_row S q a x i) ≡ S.compress (path_row S q b y i) → path_row S q a x i ≡ path_row S q b y i
Extracted S h q a x b y (some c) = LowestCollision S h q a x b y c

-- A collision is extracted.
pub record Extracts (S : Shape) (h q : ℕ) (a x b y : List ℕ) : Type 0 where
  pub collision : Collision
  pub given : extract S h q a x b y ≡ some collision
  pub lowest_one : LowestCollision S h q a x b y collision

-- Two different leaves that end alike at one place, with siblings of the right lengths, show a collision.
abbrev pub Binding : Shape → Type 0
Binding S =
    (h q : ℕ) (a x b y : List ℕ) → length a ≡ S.node_size → length b ≡ S.node_size
    → length x ≡ h * ((S.arity - 1) * S.node_size) → length y ≡ h * ((S.arity - 1) * S.node_size)
    → a ≢ b → path_node S q a x h ≡ path_node S q b y h → Extracts S h q a x b y

-- ---- all of it
pub record TreeLaws (S : Shape) : Type 0 where
  pub building : (h : ℕ) (leaves : List ℕ) → Nodes S (S.arity ^ h) leaves → Building S h leaves
  pub leaf_root : LeafRoot S
  pub storeless : Storeless S
  pub opened : (h q : ℕ) (store : List ℕ) → length store ≡ size S h → q < S.arity ^ h → Opened S h q store
  pub own_opening : (h q : ℕ) (leaves : List ℕ) → Nodes S (S.arity ^ h) leaves → q < S.arity ^ h → OwnOpening S h q leaves
  pub accepting : Accepting S
  pub replaced : (h q : ℕ) (leaves leaf : List ℕ) → Nodes S (S.arity ^ h) leaves → q < S.arity ^ h → length leaf ≡ S.node_size
      → Replaced S h q leaves leaf
  pub pushed : (h : ℕ) (cs : List Change) (leaves : List ℕ) → Nodes S (S.arity ^ h) leaves → Proper S h cs → Pushed S h cs leaves
  pub level_by_level : LevelByLevel S
  pub counts : Counts S
  pub empty_push : EmptyPush S
  pub extracted : (h q : ℕ) (a x b y : List ℕ) → Extracted S h q a x b y (extract S h q a x b y)
  pub binding : Binding S

-- ---- words

-- each leaf's numbers are words
abbrev pub LeafWords : ℕ → List Change → Type 0
LeafWords p [] = Unit {0}
LeafWords p (c ∷ cs) = (all_words p c.leaf ≡ true) × LeafWords p cs

-- Where the compression of words gives words, so does every definition.
pub record WordLaws (p : ℕ) (S : Shape) : Type 0 where
  pub built : (h : ℕ) (leaves : List ℕ) → Nodes S (S.arity ^ h) leaves → all_words p leaves ≡ true → all_words p (build S h leaves) ≡ true
  pub opened : (h q : ℕ) (store : List ℕ) → all_words p store ≡ true → all_words p (opening S h q store) ≡ true
  pub on_path : (h q : ℕ) (leaf siblings : List ℕ) → length leaf ≡ S.node_size → length siblings ≡ h * ((S.arity - 1) * S.node_size)
      → all_words p leaf ≡ true → all_words p siblings ≡ true → (j : ℕ) → j ≤ h → all_words p (path_node S q leaf siblings j) ≡ true
  pub pushed : (h : ℕ) (cs : List Change) (store : List ℕ) → Proper S h cs → LeafWords p cs → length store ≡ size S h
      → all_words p store ≡ true → all_words p (push S h cs store).store ≡ true

-- What the proofs show.
abbrev pub EveryTree : Type 0
EveryTree = (S : Shape) → Regular S → TreeLaws S × ((p : ℕ) → KeepsWords p S → WordLaws p S)
