-- Demand 3, the history theorem (Rules 6.7): one statement about a whole list of calls.
use Rattle.std.specs.Prelude.{◌≡◌, ◌≢◌, ◌↔◌, List, [], ◌∷◌, ℕ, ◌<◌, length}
use Rattle.refusals.specs.Table.{Reply, done}
use Rattle.parameters.specs.declared.ParameterSet.{ParameterSet}
use Rattle.merkle.specs.Levels.{root}
use Rattle.trees.specs.SetTrees.{tree_of_set, leaf_count, store_words, opening_words}
use Rattle.tree_entries.specs.Trees.{build_reply, built, open_reply, opened, verify_reply}
use Rattle.extraction_entries.specs.Extraction.{pair}
use Rattle.extraction_entries.specs.Statements.{Collides}
use Rattle.records.specs.Records.{SixWords}
use Rattle.history.specs.LeafBook.{Call, replacement, push, leaf_at, book_leaves, book_answers}
use Rattle.history.specs.History.{Ran, run}

-- All that is presumed of calls: a record's words are of the type [u64; 6], so there are six.
abbrev pub Typed : List Call → Type 0
Typed [] = Unit {0}
Typed (replacement q leaf ∷ cs) = Typed cs
Typed (push rs ∷ cs) = SixWords rs × Typed cs

-- the root that a store has
abbrev pub root_of : ParameterSet → List ℕ → List ℕ
root_of s store = root (tree_of_set s) store

-- What holds after a list of calls, of the store and the answers that it left and of the book's leaves and answers.
pub record Faithful (s : ParameterSet) (left : Ran) (book : List ℕ) (answers : List Reply) : Type 0 where
  -- Building from the book's leaves, into any buffer of the exact length, is not refused and writes the store that was left.
  pub stored : (buffer : List ℕ) → length buffer ≡ store_words s
      → (build_reply s book buffer ≡ done []) × (left.store ≡ built s book buffer)
  -- The answers are the book's, in order.
  pub answered : left.answers ≡ answers
  -- For every place the opening is written, and with it the book's leaf is accepted under the store's root.
  pub own : (q : ℕ) → q < leaf_count s → (buffer : List ℕ) → length buffer ≡ opening_words s
      → (open_reply s left.store q buffer ≡ done [])
      × (verify_reply s (root_of s left.store) q (leaf_at s q book) (opened s left.store q buffer) ≡ done (1 ∷ []))
  -- Any list of numbers but the book's leaf is accepted, with any siblings, exactly where extraction gives a collision: it is handed that list
  -- with its siblings first, and the book's leaf with the opening of the place second.
  pub other : (q : ℕ) → q < leaf_count s → (buffer : List ℕ) → length buffer ≡ opening_words s
      → (leaf siblings : List ℕ)
      → leaf ≢ leaf_at s q book
      → (first second : List ℕ) → length first ≡ s.width → length second ≡ s.width
      → (verify_reply s (root_of s left.store) q leaf siblings ≡ done (1 ∷ []))
      ↔ Collides s
      (pair (root_of s left.store) q leaf siblings (leaf_at s q book) (opened s left.store q buffer))
      first second

-- For every set, leaves and buffer with which building is not refused (Rules 6.1), and every list of calls.
abbrev pub Demand3 : Type 0
Demand3 =
    (s : ParameterSet) (leaves buffer : List ℕ) → build_reply s leaves buffer ≡ done []
    → (calls : List Call) → Typed calls
    → Faithful s (run s calls (built s leaves buffer)) (book_leaves s calls leaves) (book_answers s calls)
