-- What is claimed of the exchanges: the set that they give is exactly the one that validation gives for the outcome's numbers and lists.
use Rattle.std.specs.Prelude.{◌≡◌, List, ℕ}
use Rattle.refusals.specs.Table.{first_refusal}
use Rattle.fields.specs.Prime.{prime}
use Rattle.parameters.specs.ParameterSet.{validation, set_refusals}
use Rattle.set_entries.specs.Exchange.{diagonal_exchanged, height_exchanged}

-- For numbers and lists that validation accepts, and the set that it gives for them.
pub record OfValidated (t l h rf rp : ℕ) (D C : List ℕ) : Type 0 where
  -- the set is not refused where it is handed in
  pub taken : first_refusal (set_refusals (validation prime t l h rf rp D C).parameters) ≡ 0
  -- exchanging its D or its height answers what validation answers with the other D or height
  pub diagonal : (E : List ℕ) → diagonal_exchanged (validation prime t l h rf rp D C).parameters E ≡ validation prime t l h rf rp E C
  pub height : (i : ℕ) → height_exchanged (validation prime t l h rf rp D C).parameters i ≡ validation prime t l i rf rp D C

-- So exchanges may follow one another, and one is taken back by another.
pub record Exchanges : Type 0 where
  pub validated : (t l h rf rp : ℕ) (D C : List ℕ) → (validation prime t l h rf rp D C).number ≡ 0 → OfValidated t l h rf rp D C
  pub diagonal_back : (t l h rf rp : ℕ) (D C E : List ℕ) → (validation prime t l h rf rp D C).number ≡ 0
      → (validation prime t l h rf rp E C).number ≡ 0
      → diagonal_exchanged (diagonal_exchanged (validation prime t l h rf rp D C).parameters E).parameters D ≡ validation prime t l h rf rp D C
  pub height_back : (t l h i rf rp : ℕ) (D C : List ℕ) → (validation prime t l h rf rp D C).number ≡ 0
      → (validation prime t l i rf rp D C).number ≡ 0
      → height_exchanged (height_exchanged (validation prime t l h rf rp D C).parameters i).parameters h ≡ validation prime t l h rf rp D C
