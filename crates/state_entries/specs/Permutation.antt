-- What the entries of the permutation reply and leave, for any set and any numbers (Rules 3, 4.1, 7.2, 8.8).
use Rattle.std.specs.Prelude.{not, ◌&&◌, List, [], ◌∷◌, ◌++◌, ℕ, ◌/◌, eqb, length}
use Rattle.refusals.specs.Table.{Refusal, refusal, not_words, Reply, reply, after}
use Rattle.refusals.specs.Answers.{Answer, reply_by}
use Rattle.parameters.specs.declared.ParameterSet.{ParameterSet}
use Rattle.parameters.specs.ParameterSet.{prime_of, set_refusals}
use Rattle.poseidon2.specs.Rounds.{permute}
use Rattle.poseidon2.specs.Inverse.{unpermute}
use Rattle.poseidon2.specs.Compression.{compress}

-- The reply of an entry whose result is in a buffer (Rules 8.5).
abbrev pub outcome_reply : Answer Unit → Reply
outcome_reply = reply_by (λ _. [])

-- The permutation, its inverse and the compression under a set.
unfoldable pub permute_under : ParameterSet → List ℕ → List ℕ
permute_under s xs = permute (prime_of s) (s.full_rounds / 2) s.partial_rounds s.diagonal s.constants xs

unfoldable pub unpermute_under : ParameterSet → List ℕ → List ℕ
unpermute_under s xs = unpermute (prime_of s) (s.full_rounds / 2) s.partial_rounds s.diagonal s.constants xs

unfoldable pub compress_under : ParameterSet → List ℕ → List ℕ
compress_under s xs =
    compress (prime_of s) s.node_size (s.full_rounds / 2) s.partial_rounds s.diagonal s.constants xs

-- The refusals of a state: the set's, 10 if it is not t numbers, and 12 (Rules 8.8).
unfoldable pub state_refusals : ParameterSet → List ℕ → List Refusal
state_refusals s xs = set_refusals s ++ (refusal 10 (not (eqb (length xs) s.width)) ∷ not_words (prime_of s) xs ∷ [])

unfoldable pub state_reply : ParameterSet → List ℕ → Reply
state_reply s xs = reply (state_refusals s xs) []

-- `permute` and `unpermute` work in place on a state.
unfoldable pub permuted : ParameterSet → List ℕ → List ℕ
permuted s xs = after (state_reply s xs) xs (permute_under s xs)

unfoldable pub unpermuted : ParameterSet → List ℕ → List ℕ
unpermuted s xs = after (state_reply s xs) xs (unpermute_under s xs)

-- `compress` goes from a state of t numbers to a node of l.
unfoldable pub compress_refusals : ParameterSet → List ℕ → List ℕ → List Refusal
compress_refusals s xs node =
    set_refusals s ++ (refusal 10 (not (eqb (length xs) s.width && eqb (length node) s.node_size)) ∷ not_words (prime_of s) xs ∷ [])

unfoldable pub compress_reply : ParameterSet → List ℕ → List ℕ → Reply
compress_reply s xs node = reply (compress_refusals s xs node) []

unfoldable pub compressed : ParameterSet → List ℕ → List ℕ → List ℕ
compressed s xs node = after (compress_reply s xs node) node (compress_under s xs)
