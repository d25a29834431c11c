-- What `leaf_of_file` replies and leaves, for any set, contents and buffer (Rules 7.7 to 7.11, 8.8).
use Rattle.std.specs.Prelude.{Bool, not, List, [], ◌∷◌, ◌++◌, ℕ, ◌-◌, eqb, ltb, length}
use Rattle.refusals.specs.Table.{Refusal, refusal, Reply, reply, after}
use Rattle.parameters.specs.declared.ParameterSet.{ParameterSet}
use Rattle.parameters.specs.ParameterSet.{prime_of, word_bytes_of, set_refusals}
use Rattle.blobs.specs.Blob.{file_words}
use Rattle.blobs.specs.Absorption.{file_leaf}
use Rattle.state_entries.specs.Permutation.{permute_under}

-- The words of a file under a set; the rate is t - l (Rules 7.9).
unfoldable pub file_words_under : ParameterSet → List ℕ → List ℕ
file_words_under s contents = file_words (word_bytes_of s) (s.width - s.node_size) contents

-- The leaf of a file under a set (Rules 7.10).
unfoldable pub file_leaf_under : ParameterSet → List ℕ → List ℕ
file_leaf_under s contents = file_leaf (prime_of s) (word_bytes_of s) s.width s.node_size (permute_under s) contents

-- 16: the contents are more than 4294967295 bytes (Rules 7.11).
unfoldable pub too_long : List ℕ → Bool
too_long contents = ltb 4294967295 (length contents)

-- The refusals of a file: the set's, 10 if the leaf is not l numbers, and 16 (Rules 8.8).
unfoldable pub file_refusals : ParameterSet → List ℕ → List ℕ → List Refusal
file_refusals s contents leaf =
    set_refusals s ++ (refusal 10 (not (eqb (length leaf) s.node_size)) ∷ refusal 16 (too_long contents) ∷ [])

unfoldable pub file_reply : ParameterSet → List ℕ → List ℕ → Reply
file_reply s contents leaf = reply (file_refusals s contents leaf) []

-- What the buffer for the leaf holds afterwards.
unfoldable pub leaf_written : ParameterSet → List ℕ → List ℕ → List ℕ
leaf_written s contents leaf = after (file_reply s contents leaf) leaf (file_leaf_under s contents)
