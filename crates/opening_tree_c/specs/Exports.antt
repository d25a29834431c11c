-- What an array for a set holds after validation or an exchange (Rules 2.8, 8.3): the set's numbers, or after a refusal what it held.
use Rattle.std.specs.Prelude.{cond, List, ℕ, eqb}
use Rattle.parameters.specs.ParameterSet.{Validation}
use Rattle.set_arrays.specs.Arrays.{array_of}

unfoldable pub array_after : Validation → List ℕ → List ℕ
array_after v old = cond (eqb v.number 0) (array_of v.parameters) old
