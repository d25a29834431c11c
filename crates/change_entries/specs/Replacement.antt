-- What a replacement replies and leaves, for any set, numbers and store (Rules 5.2, 8.8).
use Rattle.std.specs.Prelude.{not, ◌&&◌, List, [], ◌∷◌, ◌++◌, ℕ}
use Rattle.refusals.specs.Table.{Refusal, refusal, not_words, Reply, reply, after}
use Rattle.refusals.specs.Answers.{Answer, reply_by}
use Rattle.parameters.specs.declared.ParameterSet.{ParameterSet}
use Rattle.parameters.specs.ParameterSet.{prime_of, set_refusals}
use Rattle.merkle.specs.Openings.{opening}
use Rattle.merkle.specs.Replacement.{Counted, replace}
use Rattle.trees.specs.SetTrees.{tree_of_set, store_words}
use Rattle.tree_entries.specs.Trees.{has, no_place}

-- The reply of an entry that answers how many compressions it made (Rules 8.5).
abbrev pub changed_reply : Answer ℕ → Reply
changed_reply = reply_by (λ made. made ∷ [])

-- Refusal 12 tests the leaf, and the siblings in the store that a replacement reads.
unfoldable pub replace_refusals : ParameterSet → List ℕ → ℕ → List ℕ → List Refusal
replace_refusals s store q leaf =
    set_refusals s
    ++ (refusal 10 (not (has store (store_words s) && has leaf s.node_size))
    ∷ no_place s q
    ∷ not_words (prime_of s) (leaf ++ opening (tree_of_set s) s.height q store) ∷ [])

-- The leaf at its place and the h nodes above it, with the count (Rules 5.2).
abbrev pub replacement : ParameterSet → List ℕ → ℕ → List ℕ → Counted
replacement s store q leaf = replace (tree_of_set s) s.height q leaf store

-- The answer is the count at the end.
unfoldable pub replace_reply : ParameterSet → List ℕ → ℕ → List ℕ → Reply
replace_reply s store q leaf = reply (replace_refusals s store q leaf) ((replacement s store q leaf).made ∷ [])

unfoldable pub replaced : ParameterSet → List ℕ → ℕ → List ℕ → List ℕ
replaced s store q leaf = after (replace_reply s store q leaf) store (replacement s store q leaf).store
