-- A set and a state that are not refused.
use mathlib.Core.Path.{◌≡◌}
use mathlib.Core.Bool.{not, true, ◌&&◌}
use mathlib.Core.List.{List}
use Prim.Native.Nat.{ℕ, ◌+◌, ◌*◌, ◌/◌, ◌≤◌}
use lib.Dec.{eqb}
use lib.ListN.{length, take}
use borrow.Author.Tests.{eqb-true, not-false}
use Rattle.modular.specs.Arithmetic.{all_words}
use Rattle.modular.proofs.Words.{left_true, right_true}
use Rattle.refusals.specs.Table.{first_refusal}
use Rattle.refusals.proofs.Table.{Numbered}
use Rattle.poseidon2.specs.Inverse.{inverses, total_inverse}
use Rattle.poseidon2.specs.Statements.{Width, Words, AcceptedDiagonal}
use Rattle.parameters.specs.declared.ParameterSet.{ParameterSet}
use Rattle.parameters.specs.ParameterSet.{prime_of, used_diagonal, used_inverses, set_refusals}
use Rattle.parameters.proofs.Accepted.{set-numbered}
use Rattle.state_entries.specs.Permutation.{state_refusals, compress_refusals}
use Rattle.refusals.proofs.LengthsAndWords.{all_numbered, passed}
use Rattle.parameters.proofs.AcceptedSets as sets

-- What the core is handed.
pub record Accepted (s : ParameterSet) (xs : List ℕ) : Type 0 where
  pub set : first_refusal (set_refusals s) ≡ 0
  pub width : Width s.width
  pub half_some : 1 ≤ s.full_rounds / 2
  pub half_few : s.full_rounds / 2 ≤ 6
  pub partial_few : s.partial_rounds ≤ 64
  pub constants : Words (prime_of s) (take (s.width * (2 * (s.full_rounds / 2)) + s.partial_rounds) s.constants)
  pub diagonal : length s.diagonal ≡ 12 → AcceptedDiagonal (prime_of s) s.width (take s.width s.diagonal)
  pub inverses : take s.width s.inverses ≡ inverses (prime_of s) (take s.width s.diagonal)
  pub total : s.total_inverse ≡ total_inverse (prime_of s) (take s.width s.diagonal)
  pub long : length xs ≡ s.width
  pub words : all_words (prime_of s) xs ≡ true

pub state_numbered : (s : ParameterSet) (xs : List ℕ) → Numbered (state_refusals s xs)
unfolding state_refusals
state_numbered s xs = all_numbered (prime_of s) (set_refusals s) (set-numbered s) (not (eqb (length xs) s.width)) xs

-- the same where a set alone is accepted
by_set : (s : ParameterSet) (xs : List ℕ) → first_refusal (set_refusals s) ≡ 0 → length xs ≡ s.width → all_words (prime_of s) xs ≡ true → Accepted s xs
unfolding used_diagonal used_inverses
by_set s xs none long words =
    let N = sets.numbers s none in
    record {
      set = none;
      width = N.width;
      half_some = sets.half_some s none;
      half_few = sets.half_few s none;
      partial_few = N.rounds.few_partial;
      constants = sets.used_constants_lem s none;
      diagonal = sets.used_diagonal_lem s none;
      inverses = (sets.kept s none).inverses;
      total = (sets.kept s none).total;
      long = long;
      words = words;
    }

pub accepted : (s : ParameterSet) (xs : List ℕ) → first_refusal (state_refusals s xs) ≡ 0 → Accepted s xs
unfolding state_refusals
accepted s xs z =
    let P = passed (prime_of s) (set_refusals s) (set-numbered s) (not (eqb (length xs) s.width)) xs z in
    by_set s xs P.before (eqb-true (length xs) s.width (not-false (eqb (length xs) s.width) P.lengths)) P.words

-- A set, a state and a node to be written.
pub record AcceptedNode (s : ParameterSet) (xs node : List ℕ) : Type 0 where
  pub state : Accepted s xs
  pub node_fits : s.node_size ≤ s.width
  pub node_long : length node ≡ s.node_size

pub compression_numbered : (s : ParameterSet) (xs node : List ℕ) → Numbered (compress_refusals s xs node)
unfolding compress_refusals
compression_numbered s xs node = all_numbered (prime_of s) (set_refusals s) (set-numbered s) _ xs

pub accepted_compression : (s : ParameterSet) (xs node : List ℕ) → first_refusal (compress_refusals s xs node) ≡ 0 → AcceptedNode s xs node
unfolding compress_refusals
accepted_compression s xs node z =
    let P = passed (prime_of s) (set_refusals s) (set-numbered s) (not (eqb (length xs) s.width && eqb (length node) s.node_size)) xs z in
    let both = not-false (eqb (length xs) s.width && eqb (length node) s.node_size) P.lengths in
    let A = by_set s xs P.before (eqb-true (length xs) s.width (left_true (eqb (length xs) s.width) (eqb (length node) s.node_size) both)) P.words in
    record {
      state = A;
      node_fits = sets.node_size_fits s P.before;
      node_long = eqb-true (length node) s.node_size (right_true (eqb (length xs) s.width) (eqb (length node) s.node_size) both);
    }
