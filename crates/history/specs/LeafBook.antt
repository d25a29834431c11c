-- The leaf book (Rules 6.3 to 6.6), with which demand 3 compares a store and the answers. It is the flat list of its leaves, l numbers each.
use Rattle.std.specs.Prelude.{not, List, [], ◌∷◌, ℕ, ◌*◌, ltb}
use Rattle.refusals.specs.Table.{Refusal, refusal, not_words, Reply, reply, after}
use Rattle.parameters.specs.ParameterSet.{prime_of}
use Rattle.parameters.specs.declared.ParameterSet.{ParameterSet}
use Rattle.merkle.specs.Above.{nodes_above}
use Rattle.merkle.specs.Lists.{part, put}
use Rattle.repeats.specs.Repeats.{repeats}
use Rattle.trees.specs.SetTrees.{tree_of_set, leaf_count}
use Rattle.tree_entries.specs.Trees.{has}
use Rattle.records.specs.declared.record.Record.{Record}
use Rattle.records.specs.Records.{leaf_of, places_of, places_below, used_words}
use Rattle.push_entries.specs.Pushes.{few_records}

-- A call's arguments beside the set and the store: a place and a leaf, or a list of records.
pub data Call : Type 0 where
  replacement : ℕ → List ℕ → Call
  push : List Record → Call

-- the leaf at a place, and a leaf entered there
abbrev pub leaf_at : ParameterSet → ℕ → List ℕ → List ℕ
leaf_at s q book = part (q * s.node_size) s.node_size book

abbrev pub enter : ParameterSet → ℕ → List ℕ → List ℕ → List ℕ
enter s q leaf book = put book (q * s.node_size) leaf

-- the leaves of a list of records entered, one after another
unfoldable pub enter_all : ParameterSet → List Record → List ℕ → List ℕ
enter_all s [] book = book
enter_all s (r ∷ rs) book = enter_all s rs (enter s r.place (leaf_of s.node_size r) book)

-- Nothing here has a store or an entry's answer for an argument (Rules 6.3). Of the set, l, k and h are read.
module _ (s : ParameterSet) where
  -- What the book refuses: of a replacement its leaf's length, its place and its leaf's words (Rules 6.4); of a push its length, its places,
  -- its leaves' words, and a place that it has twice (Rules 6.5).
  unfoldable pub book_refusals : Call → List Refusal
  book_refusals (replacement q leaf) =
      refusal 10 (not (has leaf s.node_size)) ∷
      refusal 11 (not (ltb q (leaf_count s))) ∷
      not_words (prime_of s) leaf ∷ []
  book_refusals (push rs) =
      refusal 10 (not (few_records rs)) ∷
      refusal 11 (not (places_below (leaf_count s) rs)) ∷
      not_words (prime_of s) (used_words s.node_size rs) ∷
      refusal 17 (repeats (places_of rs)) ∷ []

  -- What it enters where it refuses nothing, and what it then answers: h for a replacement, and for a push the different nodes above its places.
  unfoldable pub entered : Call → List ℕ → List ℕ
  entered (replacement q leaf) book = enter s q leaf book
  entered (push rs) book = enter_all s rs book

  unfoldable pub book_count : Call → ℕ
  book_count (replacement q leaf) = s.height
  book_count (push rs) = nodes_above (tree_of_set s).arity s.height (places_of rs)

  unfoldable pub book_reply : Call → Reply
  book_reply c = reply (book_refusals c) (book_count c ∷ [])

  -- the leaves after a call (Rules 6.6)
  unfoldable pub book_after : Call → List ℕ → List ℕ
  book_after c book = after (book_reply c) book (entered c book)

  -- a list of calls: the leaves after it, and the answers in order
  unfoldable pub book_leaves : List Call → List ℕ → List ℕ
  book_leaves [] book = book
  book_leaves (c ∷ cs) book = book_leaves cs (book_after c book)

  unfoldable pub book_answers : List Call → List Reply
  book_answers [] = []
  book_answers (c ∷ cs) = book_reply c ∷ book_answers cs
