-- What the entries of the tree reply and leave, for any set, numbers and buffers (Rules 4, 7.4, 8.8).
use Rattle.std.specs.Prelude.{Bool, not, cond, ◌&&◌, List, [], ◌∷◌, ◌++◌, ℕ, eqb, ltb, length}
use Rattle.refusals.specs.Table.{Refusal, refusal, not_words, Reply, refused, done, reply, after}
use Rattle.refusals.specs.Answers.{Answer, reply_by}
use Rattle.parameters.specs.declared.ParameterSet.{ParameterSet}
use Rattle.parameters.specs.ParameterSet.{prime_of, set_refusals}
use Rattle.merkle.specs.Levels.{build, root}
use Rattle.merkle.specs.Storeless.{storeless_root}
use Rattle.merkle.specs.Openings.{opening, accepts}
use Rattle.trees.specs.SetTrees.{tree_of_set, leaf_count, leaf_words, store_words, opening_words}
use Rattle.tree_entries.specs.declared.sizing.TreeSizes.{TreeSizes}
use Rattle.tree_entries.specs.declared.verdict.Verdict.{Verdict}
use Rattle.tree_entries.specs.declared.verdict.Verdict.TheVariants.{Accepted, Rejected, Refused}

-- A list or buffer is of its exact length, which refusal 10 asks (Rules 8.1).
abbrev pub has : List ℕ → ℕ → Bool
has xs n = eqb (length xs) n

-- Refusal 11: the place is not below k^h (Rules 8.1).
abbrev pub no_place : ParameterSet → ℕ → Refusal
no_place s q = refusal 11 (not (ltb q (leaf_count s)))

-- The sizes of a set's tree, in numbers: of its leaves, of a store, of an opening (Rules 4.2, 4.4, 4.7).
abbrev pub sizing_reply : Answer TreeSizes → Reply
sizing_reply = reply_by (λ (sizes : TreeSizes). sizes.leaves ∷ sizes.store ∷ sizes.opening ∷ [])

unfoldable pub sizes_reply : ParameterSet → Reply
sizes_reply s = reply (set_refusals s) (leaf_words s ∷ store_words s ∷ opening_words s ∷ [])

-- Building takes the leaves and a buffer, and writes the whole store to it (Rules 4.5).
unfoldable pub build_refusals : ParameterSet → List ℕ → List ℕ → List Refusal
build_refusals s leaves store =
    set_refusals s ++ (refusal 10 (not (has leaves (leaf_words s) && has store (store_words s))) ∷ not_words (prime_of s) leaves ∷ [])

unfoldable pub build_reply : ParameterSet → List ℕ → List ℕ → Reply
build_reply s leaves store = reply (build_refusals s leaves store) []

unfoldable pub built : ParameterSet → List ℕ → List ℕ → List ℕ
built s leaves store = after (build_reply s leaves store) store (build (tree_of_set s) s.height leaves)

-- The root is the last l words of the store, and refusal 12 tests these alone (Rules 4.6).
unfoldable pub root_refusals : ParameterSet → List ℕ → List ℕ → List Refusal
root_refusals s store node =
    set_refusals s
    ++ (refusal 10 (not (has store (store_words s) && has node s.node_size)) ∷ not_words (prime_of s) (root (tree_of_set s) store) ∷ [])

unfoldable pub root_reply : ParameterSet → List ℕ → List ℕ → Reply
root_reply s store node = reply (root_refusals s store node) []

unfoldable pub rooted : ParameterSet → List ℕ → List ℕ → List ℕ
rooted s store node = after (root_reply s store node) node (root (tree_of_set s) store)

-- The storeless root, from the leaves (Rules 7.4).
unfoldable pub storeless_refusals : ParameterSet → List ℕ → List ℕ → List Refusal
storeless_refusals s leaves node =
    set_refusals s ++ (refusal 10 (not (has leaves (leaf_words s) && has node s.node_size)) ∷ not_words (prime_of s) leaves ∷ [])

unfoldable pub storeless_reply : ParameterSet → List ℕ → List ℕ → Reply
storeless_reply s leaves node = reply (storeless_refusals s leaves node) []

unfoldable pub storeless_rooted : ParameterSet → List ℕ → List ℕ → List ℕ
storeless_rooted s leaves node =
    after (storeless_reply s leaves node) node (storeless_root (tree_of_set s) s.height leaves)

-- The opening of a place (Rules 4.7). Refusal 12 tests the siblings that are copied, and nothing else of the store.
unfoldable pub open_refusals : ParameterSet → List ℕ → ℕ → List ℕ → List Refusal
open_refusals s store q siblings =
    set_refusals s
    ++ (refusal 10 (not (has store (store_words s) && has siblings (opening_words s)))
    ∷ no_place s q
    ∷ not_words (prime_of s) (opening (tree_of_set s) s.height q store) ∷ [])

unfoldable pub open_reply : ParameterSet → List ℕ → ℕ → List ℕ → Reply
open_reply s store q siblings = reply (open_refusals s store q siblings) []

unfoldable pub opened : ParameterSet → List ℕ → ℕ → List ℕ → List ℕ
opened s store q siblings = after (open_reply s store q siblings) siblings (opening (tree_of_set s) s.height q store)

-- The reply that each verdict is: 1 for accepted, 0 for rejected (Rules 4.11, 8.5).
unfoldable pub verdict_reply : Verdict → Reply
verdict_reply Accepted = done (1 ∷ [])
verdict_reply Rejected = done (0 ∷ [])
verdict_reply (Refused n) = refused n

unfoldable pub verify_refusals : ParameterSet → List ℕ → ℕ → List ℕ → List ℕ → List Refusal
verify_refusals s top q leaf siblings =
    set_refusals s
    ++ (refusal 10 (not (has top s.node_size && has leaf s.node_size && has siblings (opening_words s)))
    ∷ no_place s q
    ∷ not_words (prime_of s) (top ++ (leaf ++ siblings)) ∷ [])

-- Accepted if the leaf's path ends in the root (Rules 4.11).
unfoldable pub verify_reply : ParameterSet → List ℕ → ℕ → List ℕ → List ℕ → Reply
verify_reply s top q leaf siblings =
    reply (verify_refusals s top q leaf siblings) (cond (accepts (tree_of_set s) s.height top q leaf siblings) 1 0 ∷ [])
