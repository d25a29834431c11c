-- What is claimed of sets as arrays: a set whose lists have their places is read from its array as it is, and an array of 238 numbers is that
-- of the set that is read from it. So nothing is lost on the way, and nothing is made of two arrays alike.
use Rattle.std.specs.Prelude.{◌≡◌, List, ℕ, length}
use Rattle.parameters.specs.declared.ParameterSet.{ParameterSet}
use Rattle.set_arrays.specs.Arrays.{set_of, array_of}

-- What the type of a set says of its lists.
pub record Places (s : ParameterSet) : Type 0 where
  pub diagonal : length s.diagonal ≡ 12
  pub constants : length s.constants ≡ 208
  pub inverses : length s.inverses ≡ 12

pub record Arrays : Type 0 where
  pub read : (s : ParameterSet) → Places s → set_of (array_of s) ≡ s
  pub written : (xs : List ℕ) → length xs ≡ 238 → array_of (set_of xs) ≡ xs
