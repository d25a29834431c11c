-- What a push replies and leaves, for any set, store and list of records (Rules 5.4, 5.5, 8.8).
use Rattle.std.specs.Prelude.{Bool, not, ◌&&◌, List, [], ◌∷◌, ◌++◌, ℕ, ◌^◌, leb, length}
use Rattle.refusals.specs.Table.{Refusal, refusal, not_words, Reply, reply, after}
use Rattle.parameters.specs.declared.ParameterSet.{ParameterSet}
use Rattle.parameters.specs.ParameterSet.{prime_of, set_refusals}
use Rattle.merkle.specs.Replacement.{Counted, push}
use Rattle.repeats.specs.Repeats.{repeats}
use Rattle.trees.specs.SetTrees.{tree_of_set, leaf_count, store_words}
use Rattle.tree_entries.specs.Trees.{has}
use Rattle.records.specs.declared.record.Record.{Record}
use Rattle.records.specs.Records.{changes_of, places_of, places_below, used_words}

-- There are at most 2^32 records: more are refused with 10 (Rules 5.4).
abbrev pub few_records : List Record → Bool
few_records rs = leb (length rs) (2 ^ 32)

-- Refusal 12 tests every record's leaf and the whole store (Rules 5.5), and 17 that no two records have the same place (Rules 5.4).
unfoldable pub push_refusals : ParameterSet → List ℕ → List Record → List Refusal
push_refusals s store rs =
    set_refusals s
    ++ (refusal 10 (not (has store (store_words s) && few_records rs))
    ∷ refusal 11 (not (places_below (leaf_count s) rs))
    ∷ not_words (prime_of s) (used_words s.node_size rs ++ store)
    ∷ refusal 17 (repeats (places_of rs)) ∷ [])

-- What the records done singly leave, and the count of the different nodes above their places (Rules 5.4).
abbrev pub pushing : ParameterSet → List ℕ → List Record → Counted
pushing s store rs = push (tree_of_set s) s.height (changes_of s.node_size rs) store

unfoldable pub push_reply : ParameterSet → List ℕ → List Record → Reply
push_reply s store rs = reply (push_refusals s store rs) ((pushing s store rs).made ∷ [])

unfoldable pub pushed : ParameterSet → List ℕ → List Record → List ℕ
pushed s store rs = after (push_reply s store rs) store (pushing s store rs).store
