-- The book's leaves said in another way (Rules 6.6): each is the last one accepted for its place, or else the one handed to building.
use Rattle.std.specs.Prelude.{◌≡◌, cond, List, [], ◌∷◌, ◌++◌, ℕ, ◌<◌, eqb, length}
use Rattle.refusals.specs.Table.{Reply, refused, done}
use Rattle.parameters.specs.declared.ParameterSet.{ParameterSet}
use Rattle.merkle.specs.Replacement.{Change}
use Rattle.trees.specs.SetTrees.{leaf_count, leaf_words}
use Rattle.tree_entries.specs.Trees.{build_reply}
use Rattle.records.specs.Records.{changes_of}
use Rattle.history.specs.LeafBook.{Call, replacement, push, leaf_at, book_reply, book_leaves}
use Rattle.history.specs.Demand3.{Typed}

-- the places and leaves that a call brings
unfoldable pub brought : ParameterSet → Call → List Change
brought s (replacement q leaf) = record { place = q; leaf = leaf } ∷ []
brought s (push rs) = changes_of s.node_size rs

-- all of them where it is accepted, else none
unfoldable pub if_accepted : Reply → List Change → List Change
if_accepted (refused n) changes = []
if_accepted (done result) changes = changes

-- those that a list of calls brought and the book accepted, in order
unfoldable pub accepted : ParameterSet → List Call → List Change
accepted s [] = []
accepted s (c ∷ cs) = if_accepted (book_reply s c) (brought s c) ++ accepted s cs

-- the last leaf for the place q, and where there is none the given one
unfoldable pub last_for : ℕ → List ℕ → List Change → List ℕ
last_for q given [] = given
last_for q given (c ∷ cs) = last_for q (cond (eqb c.place q) c.leaf given) cs

pub record IsLatest (s : ParameterSet) (leaves book : List ℕ) (changes : List Change) : Type 0 where
  -- all leaves are there, and no more
  pub whole : length book ≡ leaf_words s
  pub each : (q : ℕ) → q < leaf_count s → leaf_at s q book ≡ last_for q (leaf_at s q leaves) changes

abbrev pub Latest : Type 0
Latest =
    (s : ParameterSet) (leaves buffer : List ℕ) → build_reply s leaves buffer ≡ done []
    → (calls : List Call) → Typed calls
    → IsLatest s leaves (book_leaves s calls leaves) (accepted s calls)
