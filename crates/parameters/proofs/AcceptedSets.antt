-- What the core is handed under a set that is accepted.
use mathlib.Core.Path.{◌≡◌, sym, ◌∙◌}
use mathlib.Core.Bool.{true, false}
use mathlib.Core.List.{List}
use Prim.Native.Nat.{ℕ, ◌+◌, ◌*◌, ◌/◌, ◌%◌, ◌≤◌, ◌<◌}
use native.Mathlib.Nat.{div-le_self, mul-le-mul_right, div-mul-le_self}
use native.Mathlib.Decide.{dec_lt}
use native.Mathlib.Omega.{arith}
use lib.ListN.{length, get_or, take, get_or-eq_default}
use lib.Seq.{length-take-le, get_or-take}
use borrow.Author.Tests.{eqb-false}
use Rattle.modular.specs.Arithmetic.{all_words}
use Rattle.modular.proofs.Words.{words_at}
use Rattle.refusals.specs.Table.{first_refusal}
use Rattle.fields.proofs.Prime.{positive}
use Rattle.refusals.proofs.Table.{first_none}
use Rattle.poseidon2.specs.Layers.{sum}
use Rattle.poseidon2.specs.Inverse.{inverses}
use Rattle.poseidon2.specs.Statements.{Words, State, AcceptedDiagonal}
use Rattle.parameters.specs.Refusals.{constant_count, several_zeros, bad_diagonal, number_refusals, used_refusals}
use Rattle.parameters.specs.ParameterSet.{prime_of, used_diagonal, used_constants, used_inverses, held_refusals, set_refusals}
use Rattle.parameters.specs.declared.ParameterSet.{ParameterSet}
use Rattle.parameters.proofs.Diagonal.{without_zero, few_zeros_lem}
use Rattle.parameters.proofs.Accepted.{Numbers, Lists, Kept, numbers_of_lem, numbers_numbered, used_of, width_fits}

-- numbers that the test of words accepts
pub words_of : (p : ℕ) (xs : List ℕ) → 0 < p → all_words p xs ≡ true → Words p xs
words_of p xs positive e = record { at = λ i. at i (dec_lt i (length xs)) }
  where
    at : (i : ℕ) → Dec (i < length xs) → get_or xs i 0 < p
    at i (yes h) = words_at p xs i e h
    at i (no h) = rw (get_or-eq_default xs 0 {n = i} (omega arith)) positive

pub state_of : (p t : ℕ) (xs : List ℕ) → 0 < p → length xs ≡ t → all_words p xs ≡ true → State p t xs
state_of p t xs positive e w = record { width = e; words = words_of p xs positive w }

-- a D of t words that neither 8 nor 9 turns down
pub accepted_diagonal : (p t : ℕ) (D : List ℕ) → State p t D → several_zeros D ≡ false → bad_diagonal p D ≡ false → AcceptedDiagonal p t D
accepted_diagonal p t D S e f = record {
  width = S.width;
  words = S.words;
  few_zeros = few_zeros_lem D e;
  sum_nonzero = λ z. omega (arith, eqb-false ((1 + sum (inverses p D)) % p) 0 (sym (without_zero p D z) ∙ f));
}

-- a list of words by its places
pub used_at : (p n : ℕ) (xs : List ℕ) → Words p (take n xs) → (i : ℕ) → i < n → get_or xs i 0 < p
used_at p n xs W i b = rw (get_or-take n xs i 0 b) at (W.at i)

module _ (s : ParameterSet) (none : first_refusal (set_refusals s) ≡ 0) where
  pub parts :
      (first_refusal (number_refusals s.width s.node_size s.height s.full_rounds s.partial_rounds) ≡ 0)
      × (first_refusal (used_refusals (prime_of s) (used_diagonal s) (used_constants s) (used_inverses s) s.total_inverse) ≡ 0)
  unfolding set_refusals held_refusals
  parts =
      first_none (number_refusals s.width s.node_size s.height s.full_rounds s.partial_rounds)
      (used_refusals (prime_of s) (used_diagonal s) (used_constants s) (used_inverses s) s.total_inverse) (numbers_numbered _ _ _ _ _) none

  pub numbers : Numbers s.width s.node_size s.height s.full_rounds s.partial_rounds
  numbers = numbers_of_lem _ _ _ _ _ parts.0

  pub lists : Lists (prime_of s) (used_diagonal s) (used_constants s)
  lists = (used_of (prime_of s) (used_diagonal s) (used_constants s) (used_inverses s) s.total_inverse parts.1).0

  -- what is kept is what is named
  pub kept : Kept (prime_of s) (used_diagonal s) (used_inverses s) s.total_inverse
  kept = (used_of (prime_of s) (used_diagonal s) (used_constants s) (used_inverses s) s.total_inverse parts.1).1

  pub arity_few : (1 ≤ s.width / s.node_size) × (s.width / s.node_size ≤ 12)
  arity_few = (omega (arith, numbers.node_size.several), omega (arith, div-le_self s.width s.node_size, width_fits s.width numbers.width))

  -- R_F/2: the full rounds of either half
  pub half_some : 1 ≤ s.full_rounds / 2
  half_some = omega (arith, numbers.rounds.some)

  pub half_few : s.full_rounds / 2 ≤ 6
  half_few = omega (arith, numbers.rounds.few)

  both_halves : 2 * (s.full_rounds / 2) ≡ s.full_rounds
  both_halves = omega (arith, numbers.rounds.even)

  pub used_constants_lem : Words (prime_of s) (take (s.width * (2 * (s.full_rounds / 2)) + s.partial_rounds) s.constants)
  unfolding used_constants constant_count
  used_constants_lem = rw both_halves (words_of (prime_of s) (used_constants s) positive lists.constants)

  -- the width of numbers that are cast
  pub width_few : s.width ≤ 12
  width_few = width_fits s.width numbers.width

  pub used_state : length s.diagonal ≡ 12 → State (prime_of s) s.width (used_diagonal s)
  unfolding used_diagonal
  used_state long =
      state_of (prime_of s) s.width (used_diagonal s) positive (length-take-le s.width s.diagonal (omega (arith, width_few))) lists.diagonal

  pub used_diagonal_lem : length s.diagonal ≡ 12 → AcceptedDiagonal (prime_of s) s.width (used_diagonal s)
  used_diagonal_lem long = accepted_diagonal (prime_of s) s.width (used_diagonal s) (used_state long) lists.few_zeros lists.sum

-- a node is no wider than a row
pub node_size_fits : (s : ParameterSet) → first_refusal (set_refusals s) ≡ 0 → s.node_size ≤ s.width
node_size_fits s none = divisor_fits s.width s.node_size (numbers s none).node_size.several
  where
    divisor_fits : (t l : ℕ) → 2 ≤ t / l → l ≤ t
    divisor_fits t l h = omega (arith, mul-le-mul_right l h, div-mul-le_self t l)
