-- What is claimed of the permutation, its inverse and the compression under a set, and of the entries: the inverse undoes the permutation
-- and is undone by it, and the compression is its input's permutation plus the input.
use Rattle.std.specs.Prelude.{◌≡◌, List, ℕ, length, take}
use Rattle.refusals.specs.Table.{first_refusal, after}
use Rattle.parameters.specs.declared.ParameterSet.{ParameterSet}
use Rattle.parameters.specs.ParameterSet.{prime_of, set_refusals}
use Rattle.poseidon2.specs.Layers.{add_lists}
use Rattle.poseidon2.specs.Statements.{State, Undo}
use Rattle.state_entries.specs.Permutation.{permute_under, unpermute_under, compress_under, state_reply, permuted, unpermuted, compress_reply, compressed}

-- What the type of a set says of its lists: D is of the type [u64; 12], C of [u64; 208].
pub record Places (s : ParameterSet) : Type 0 where
  pub diagonal : length s.diagonal ≡ 12
  pub constants : length s.constants ≡ 208

-- Under a set that is accepted, on every state of t words.
pub record UnderAccepted (s : ParameterSet) : Type 0 where
  pub inverse : Undo (prime_of s) s.width (permute_under s) (unpermute_under s)
  pub compression : (xs : List ℕ) → State (prime_of s) s.width xs
      → (compress_under s xs ≡ take s.node_size (add_lists (prime_of s) (permute_under s xs) xs))
      × State (prime_of s) s.node_size (compress_under s xs)

-- The entries in turn, on any list of numbers: a call that is refused keeps its list, so nothing is presumed of it. What the first call
-- leaves the second takes back, and both answer alike.
pub record InTurn (s : ParameterSet) (xs : List ℕ) : Type 0 where
  pub back : unpermuted s (permuted s xs) ≡ xs
  pub forth : permuted s (unpermuted s xs) ≡ xs
  pub answer_back : state_reply s (permuted s xs) ≡ state_reply s xs
  pub answer_forth : state_reply s (unpermuted s xs) ≡ state_reply s xs
  -- what `compress` writes is what `permute` leaves of the same numbers, plus these
  pub compression : (node : List ℕ)
      → compressed s xs node
      ≡ after (compress_reply s xs node) node (take s.node_size (add_lists (prime_of s) (permuted s xs) xs))

-- All of it, for every set whose lists have their places.
pub record PermutationClaims : Type 0 where
  pub accepted : (s : ParameterSet) → Places s → first_refusal (set_refusals s) ≡ 0 → UnderAccepted s
  pub entries : (s : ParameterSet) → Places s → (xs : List ℕ) → InTurn s xs
