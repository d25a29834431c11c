-- What the entries answer that exchange a part of a set (Rules 2.11): the number of the first refusal of the set that is handed in; else
-- what validation answers for the outcome.
use Rattle.std.specs.Prelude.{cond, List, ℕ, eqb}
use Rattle.refusals.specs.Table.{first_refusal}
use Rattle.parameters.specs.declared.ParameterSet.{ParameterSet}
use Rattle.parameters.specs.ParameterSet.{Validation, turned_down, set_refusals, with_diagonal, with_height}

-- The answer for an outcome, if the set is not refused.
unfoldable pub judged_first : ParameterSet → Validation → Validation
judged_first s outcome =
    let number = first_refusal (set_refusals s) in
    cond (eqb number 0) outcome (turned_down number)

unfoldable pub diagonal_exchanged : ParameterSet → List ℕ → Validation
diagonal_exchanged s D = judged_first s (with_diagonal s D)

unfoldable pub height_exchanged : ParameterSet → ℕ → Validation
height_exchanged s h = judged_first s (with_height s h)
