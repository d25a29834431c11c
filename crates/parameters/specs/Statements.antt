-- What is claimed of refusals 8 and 9: together they turn a D down exactly where M_I has no inverse modulo p (Rules 2.3), for every prime of
-- modular's record and every width.
use Rattle.std.specs.Prelude.{◌≡◌, ◌≢◌, ◌⊎◌, List, ℕ, ◌<◌, ◌≤◌, length}
use Rattle.modular.specs.PrimeField.{PrimeField}
use Rattle.refusals.specs.Table.{first_refusal}
use Rattle.poseidon2.specs.Layers.{internal}
use Rattle.poseidon2.specs.Inverse.{uninternal}
use Rattle.poseidon2.specs.Statements.{State, Undo, Merges}
use Rattle.parameters.specs.Refusals.{diagonal_refusals, validation_refusals}
use Rattle.parameters.specs.ParameterSet.{held_refusals}

-- The two rows, and M_I of a D of t words: where neither row applies, its inverse undoes it and is undone by it; where one applies, two
-- different states have one image; so if anything at all undoes it, neither applies.
pub record Exactly (p t : ℕ) (D : List ℕ) : Type 0 where
  pub accepted : first_refusal (diagonal_refusals p D) ≡ 0 → Undo p t (internal p D) (uninternal p D)
  pub refused : first_refusal (diagonal_refusals p D) ≢ 0 → Merges p t (internal p D)
  pub undone : (g : List ℕ → List ℕ) → Undo p t (internal p D) g → first_refusal (diagonal_refusals p D) ≡ 0

-- What the number of all the refusals of a set says of its M_I: 0 and 18 that it is undone, and 8 or 9 that it can't be.
pub record Decides (p t : ℕ) (D : List ℕ) (number : ℕ) : Type 0 where
  pub accepted : (number ≡ 0) ⊎ (9 < number) → Undo p t (internal p D) (uninternal p D)
  pub refused : 7 < number → number ≤ 9 → Merges p t (internal p D)

-- All of it: for the two rows, t being any number; for what validation is handed; and for the numbers, used lists and kept values of a set
-- that an entry is handed.
pub record DiagonalClaims (p : ℕ) (F : PrimeField p) : Type 0 where
  pub rows : (t : ℕ) (D : List ℕ) → State p t D → Exactly p t D
  pub validation : (t l h rf rp : ℕ) (D C : List ℕ) → Decides p t D (first_refusal (validation_refusals p t l h rf rp D C))
  pub sets : (t l h rf rp : ℕ) (D C es : List ℕ) (k : ℕ) → length D ≡ t → Decides p t D (first_refusal (held_refusals p t l h rf rp D C es k))
