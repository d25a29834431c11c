-- What `copy_level` replies and leaves (Rules 4.9, 8.8), for callers that cannot hold a view: the buffer has to be of the part's length.
use Rattle.std.specs.Prelude.{not, ◌&&◌, List, [], ◌∷◌, ◌++◌, ℕ, ltb}
use Rattle.refusals.specs.Table.{Refusal, refusal, not_words, Reply, reply, after}
use Rattle.parameters.specs.declared.ParameterSet.{ParameterSet}
use Rattle.parameters.specs.ParameterSet.{prime_of, set_refusals}
use Rattle.merkle.specs.Openings.{siblings_at}
use Rattle.trees.specs.SetTrees.{tree_of_set, opening_words, part_words}
use Rattle.tree_entries.specs.Trees.{has}

unfoldable pub copy_refusals : ParameterSet → List ℕ → ℕ → List ℕ → List Refusal
copy_refusals s siblings j buffer =
    set_refusals s
    ++ (refusal 10 (not (has siblings (opening_words s) && has buffer (part_words s)))
    ∷ refusal 11 (not (ltb j s.height))
    ∷ not_words (prime_of s) (siblings_at (tree_of_set s) siblings j) ∷ [])

unfoldable pub copy_reply : ParameterSet → List ℕ → ℕ → List ℕ → Reply
copy_reply s siblings j buffer = reply (copy_refusals s siblings j buffer) []

unfoldable pub copied : ParameterSet → List ℕ → ℕ → List ℕ → List ℕ
copied s siblings j buffer = after (copy_reply s siblings j buffer) buffer (siblings_at (tree_of_set s) siblings j)
