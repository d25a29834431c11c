-- The parameter set (Rules 2): what is read of one that is handed in, and what validation answers.
use Rattle.std.specs.Prelude.{cond, List, ◌++◌, ℕ, eqb, take, replicate, Ok, Err}
use Rattle.refusals.specs.Table.{Refusal, first_refusal}
use Rattle.refusals.specs.Answers.{Answer, number_of}
use Rattle.fields.specs.Prime.{prime, word_bytes}
use Rattle.kept.specs.Kept.{padded, kept_of}
use Rattle.parameters.specs.Refusals.{constant_count, number_refusals, used_refusals, validation_refusals}
use Rattle.parameters.specs.declared.ParameterSet.{ParameterSet}

-- The prime of a set: today one for every set (Rules 1.1).
abbrev pub prime_of : ParameterSet → ℕ
prime_of s = prime

-- How many bytes a word takes under a set (Rules 7.8).
abbrev pub word_bytes_of : ParameterSet → ℕ
word_bytes_of s = word_bytes

-- The set of five numbers and two lists (Rules 2.5, 2.9): 12 places for D, 208 for C, and what is kept for D.
unfoldable pub held : ℕ → ℕ → ℕ → ℕ → ℕ → ℕ → List ℕ → List ℕ → ParameterSet
held p t l h rf rp D C = record {
  width = t;
  node_size = l;
  height = h;
  full_rounds = rf;
  partial_rounds = rp;
  diagonal = padded 12 D;
  constants = padded 208 C;
  inverses = (kept_of p D).inverses;
  total_inverse = (kept_of p D).total_inverse;
}

-- Zeros in the place of a set (Rules 2.6).
unfoldable pub no_set : ParameterSet
no_set = record {
  width = 0;
  node_size = 0;
  height = 0;
  full_rounds = 0;
  partial_rounds = 0;
  diagonal = replicate 12 0;
  constants = replicate 208 0;
  inverses = replicate 12 0;
  total_inverse = 0;
}

-- What validation answers: 0 and the set, or the number of a refusal and zeros.
pub record Validation : Type 0 where
  pub number : ℕ
  pub parameters : ParameterSet

-- A refused validation: its number, and zeros.
unfoldable pub turned_down : ℕ → Validation
turned_down n = record { number = n; parameters = no_set }

-- The validation that an answer of code is.
abbrev pub validation_of : Answer ParameterSet → Validation
validation_of (Ok set) = record { number = 0; parameters = set }
validation_of (Err refusal) = turned_down (number_of refusal)

-- What validation answers (Rules 2.4, 2.5): 0 and the set, or the number of the first refusal that applies and zeros.
unfoldable pub validation : ℕ → ℕ → ℕ → ℕ → ℕ → ℕ → List ℕ → List ℕ → Validation
validation p t l h rf rp D C =
    let number = first_refusal (validation_refusals p t l h rf rp D C) in
    record { number = number; parameters = cond (eqb number 0) (held p t l h rf rp D C) no_set }

-- The used places of a set's lists (Rules 2.7).
unfoldable pub used_diagonal : ParameterSet → List ℕ
used_diagonal s = take s.width s.diagonal

unfoldable pub used_constants : ParameterSet → List ℕ
used_constants s = take (constant_count s.width s.full_rounds s.partial_rounds) s.constants

unfoldable pub used_inverses : ParameterSet → List ℕ
used_inverses s = take s.width s.inverses

-- What validation answers for a set's numbers and used lists, with another D or another height in the place of its own (Rules 2.11).
unfoldable pub with_diagonal : ParameterSet → List ℕ → Validation
with_diagonal s D = validation (prime_of s) s.width s.node_size s.height s.full_rounds s.partial_rounds D (used_constants s)

unfoldable pub with_height : ParameterSet → ℕ → Validation
with_height s h =
    validation (prime_of s) s.width s.node_size h s.full_rounds s.partial_rounds (used_diagonal s) (used_constants s)

-- The refusals of five numbers, used lists and kept values.
unfoldable pub held_refusals : ℕ → ℕ → ℕ → ℕ → ℕ → ℕ → List ℕ → List ℕ → List ℕ → ℕ → List Refusal
held_refusals p t l h rf rp D C es k = number_refusals t l h rf rp ++ used_refusals p D C es k

-- The refusals of a set that is handed in, by its five numbers, the used places of its lists and what it keeps for them (Rules 2.7).
unfoldable pub set_refusals : ParameterSet → List Refusal
set_refusals s =
    held_refusals (prime_of s) s.width s.node_size s.height s.full_rounds s.partial_rounds (used_diagonal s) (used_constants s) (used_inverses s) s.total_inverse
