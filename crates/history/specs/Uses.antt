-- What demand 3 is for: a consequence of each of its parts.
use Rattle.std.specs.Prelude.{◌≡◌, ◌≢◌, true, false, List, [], ◌∷◌, ◌++◌, ℕ, ◌*◌, ◌^◌, ◌≤◌, ◌<◌, length}
use Rattle.modular.specs.Arithmetic.{all_words}
use Rattle.refusals.specs.Table.{refused, done}
use Rattle.parameters.specs.ParameterSet.{prime_of}
use Rattle.parameters.specs.declared.ParameterSet.{ParameterSet}
use Rattle.merkle.specs.Above.{nodes_above}
use Rattle.merkle.specs.Storeless.{storeless_root}
use Rattle.repeats.specs.Repeats.{repeats}
use Rattle.state_entries.specs.Permutation.{compress_under}
use Rattle.trees.specs.SetTrees.{tree_of_set, leaf_count, opening_words}
use Rattle.tree_entries.specs.Trees.{build_reply, built, opened, verify_reply}
use Rattle.extraction_entries.specs.Extraction.{pair}
use Rattle.extraction_entries.specs.Statements.{IsRow, Collides}
use Rattle.records.specs.declared.record.Record.{Record}
use Rattle.records.specs.Records.{places_of, places_below, used_words, SixWords}
use Rattle.history.specs.LeafBook.{Call, replacement, push, leaf_at, book_leaves, book_answers}
use Rattle.history.specs.History.{Ran, run}
use Rattle.history.specs.Demand3.{Typed, root_of}

-- whatever list of calls is done on whatever built store, with what it left and the book's leaves
abbrev pub AfterCalls : (ParameterSet → Ran → List ℕ → Type 0) → Type 0
AfterCalls P =
    (s : ParameterSet) (leaves buffer : List ℕ) → build_reply s leaves buffer ≡ done []
    → (calls : List Call) → Typed calls → P s (run s calls (built s leaves buffer)) (book_leaves s calls leaves)

-- The root is the storeless root of the book's leaves.
abbrev pub RootOfBook : Type 0
RootOfBook = AfterCalls (λ s left book. root_of s left.store ≡ storeless_root (tree_of_set s) s.height book)

-- A push that nothing refuses answers the number of different nodes above its places, which is at most h for each record, and a replacement h.
abbrev pub Counts : Type 0
Counts =
    (s : ParameterSet) (leaves buffer : List ℕ) → build_reply s leaves buffer ≡ done []
    → (rs : List Record) → SixWords rs → length rs ≤ 2 ^ 32 → places_below (leaf_count s) rs ≡ true → all_words (prime_of s) (used_words s.node_size rs) ≡ true
    → repeats (places_of rs) ≡ false
    → (q : ℕ) (leaf : List ℕ) → length leaf ≡ s.node_size → q < leaf_count s → all_words (prime_of s) leaf ≡ true
    → ((run s (push rs ∷ replacement q leaf ∷ []) (built s leaves buffer)).answers
    ≡ done (nodes_above (tree_of_set s).arity s.height (places_of rs) ∷ []) ∷ done (s.height ∷ []) ∷ [])
    × (nodes_above (tree_of_set s).arity s.height (places_of rs) ≤ s.height * length rs)

-- A push that has a place twice, and nothing else against it, changes nothing in a list of calls, wherever it stands there: the store is the one
-- that the others leave without it, and to their answers, the book's, it adds 17.
abbrev pub RepeatStops : Type 0
RepeatStops =
    (s : ParameterSet) (leaves buffer : List ℕ) → build_reply s leaves buffer ≡ done []
    → (before after : List Call) → Typed (before ++ after)
    → (rs : List Record) → SixWords rs → length rs ≤ 2 ^ 32 → places_below (leaf_count s) rs ≡ true → all_words (prime_of s) (used_words s.node_size rs) ≡ true
    → repeats (places_of rs) ≡ true
    → ((run s (before ++ (push rs ∷ after)) (built s leaves buffer)).store ≡ (run s (before ++ after) (built s leaves buffer)).store)
    × ((run s (before ++ (push rs ∷ after)) (built s leaves buffer)).answers ≡ book_answers s before ++ (refused 17 ∷ book_answers s after))

-- Under the storeless root of the book's leaves each of them is accepted, with the opening of its place.
abbrev pub OwnAccepted : Type 0
OwnAccepted =
    AfterCalls (λ s left book.
    (q : ℕ) → q < leaf_count s → (buffer : List ℕ) → length buffer ≡ opening_words s
    → verify_reply s (storeless_root (tree_of_set s) s.height book) q (leaf_at s q book) (opened s left.store q buffer) ≡ done (1 ∷ []))

-- two different rows that compress alike
pub record RowCollision (s : ParameterSet) : Type 0 where
  pub first : List ℕ
  pub second : List ℕ
  pub rows : IsRow s first × IsRow s second
  pub differ : first ≢ second
  pub alike : compress_under s first ≡ compress_under s second

-- Another leaf is accepted at the price of such rows alone.
abbrev pub OtherCollides : Type 0
OtherCollides =
    AfterCalls (λ s left book.
    (q : ℕ) → q < leaf_count s → (leaf siblings : List ℕ) → leaf ≢ leaf_at s q book
    → verify_reply s (root_of s left.store) q leaf siblings ≡ done (1 ∷ [])
    → RowCollision s)

-- For another leaf that is not accepted extraction gives no such rows.
abbrev pub OnlyAccepted : Type 0
OnlyAccepted =
    AfterCalls (λ s left book.
    (q : ℕ) → q < leaf_count s → (leaf siblings : List ℕ) → leaf ≢ leaf_at s q book
    → verify_reply s (root_of s left.store) q leaf siblings ≢ done (1 ∷ [])
    → (buffer first second : List ℕ) → length buffer ≡ opening_words s → length first ≡ s.width → length second ≡ s.width
    → Collides s (pair (root_of s left.store) q leaf siblings (leaf_at s q book) (opened s left.store q buffer)) first second → ⊥)

pub record Uses : Type 0 where
  pub root : RootOfBook
  pub counts : Counts
  pub stops : RepeatStops
  pub own : OwnAccepted
  pub other : OtherCollides
  pub only : OnlyAccepted
