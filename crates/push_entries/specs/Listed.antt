-- What a push of records that are handed in as numbers replies and leaves, for any set, store and list of numbers (Rules 5.6, 8.8).
use Rattle.std.specs.Prelude.{not, ◌&&◌, List, [], ◌∷◌, ◌++◌, ℕ}
use Rattle.refusals.specs.Table.{Refusal, refusal, not_words, Reply, reply, after}
use Rattle.parameters.specs.declared.ParameterSet.{ParameterSet}
use Rattle.parameters.specs.ParameterSet.{prime_of, set_refusals}
use Rattle.repeats.specs.Repeats.{repeats}
use Rattle.trees.specs.SetTrees.{leaf_count, store_words}
use Rattle.tree_entries.specs.Trees.{has}
use Rattle.records.specs.Records.{places_of, places_below, used_words}
use Rattle.records.specs.Listed.{listed, whole_records}
use Rattle.push_entries.specs.Pushes.{few_records, pushing}

unfoldable pub listed_refusals : ParameterSet → List ℕ → List ℕ → List Refusal
listed_refusals s store ns =
    set_refusals s
    ++ (refusal 10 (not (has store (store_words s) && (whole_records ns && few_records (listed ns))))
    ∷ refusal 11 (not (places_below (leaf_count s) (listed ns)))
    ∷ not_words (prime_of s) (used_words s.node_size (listed ns) ++ store)
    ∷ refusal 17 (repeats (places_of (listed ns))) ∷ [])

unfoldable pub listed_reply : ParameterSet → List ℕ → List ℕ → Reply
listed_reply s store ns = reply (listed_refusals s store ns) ((pushing s store (listed ns)).made ∷ [])

unfoldable pub listed_pushed : ParameterSet → List ℕ → List ℕ → List ℕ
listed_pushed s store ns = after (listed_reply s store ns) store (pushing s store (listed ns)).store
