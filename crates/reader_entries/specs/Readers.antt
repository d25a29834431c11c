-- What an opening reader gives for one level, for any set, sibling words and level (Rules 4.9, 8.8).
use Rattle.std.specs.Prelude.{not, List, [], ◌∷◌, ◌++◌, ℕ, Ok, Err, ltb}
use Rattle.std.specs.Borrow.{Bor}
use Rattle.refusals.specs.Table.{Refusal, refusal, not_words, Reply, reply, after}
use Rattle.refusals.specs.Answers.{Answer, reply_by}
use Rattle.parameters.specs.declared.ParameterSet.{ParameterSet}
use Rattle.parameters.specs.ParameterSet.{prime_of, set_refusals}
use Rattle.merkle.specs.Openings.{siblings_at}
use Rattle.trees.specs.SetTrees.{tree_of_set, opening_words}
use Rattle.tree_entries.specs.Trees.{has}

-- Refusal 11 asks that the level is below h; refusal 12 tests that level's part, and no other.
unfoldable pub read_refusals : ParameterSet → List ℕ → ℕ → List Refusal
read_refusals s siblings j =
    set_refusals s
    ++ (refusal 10 (not (has siblings (opening_words s)))
    ∷ refusal 11 (not (ltb j s.height))
    ∷ not_words (prime_of s) (siblings_at (tree_of_set s) siblings j) ∷ [])

-- The reply is the level's part (Rules 8.5).
unfoldable pub read_reply : ParameterSet → List ℕ → ℕ → Reply
read_reply s siblings j = reply (read_refusals s siblings j) (siblings_at (tree_of_set s) siblings j)

-- The words given: none after a refusal (Rules 4.9).
unfoldable pub read_words : ParameterSet → List ℕ → ℕ → List ℕ
read_words s siblings j = after (read_reply s siblings j) [] (siblings_at (tree_of_set s) siblings j)

-- The reply that a reader's answer is, and the words that it gives: none with a refusal.
abbrev pub part_reply : Answer (Bor (List ℕ)) → Reply
part_reply = reply_by (λ part. part.now)

abbrev pub words_given : Answer (Bor (List ℕ)) → List ℕ
words_given (Ok part) = part.now
words_given (Err refusal) = []
