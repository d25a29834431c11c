-- A set as C hands it in, an array of 238 numbers (Rules 2.8): t, l, h, R_F, R_P; 12 places for D and 208 for C; and what is kept, 12 places
-- for the inverses and the inverse of 1 plus their sum.
use Rattle.std.specs.Prelude.{List, [], ◌∷◌, ◌++◌, ℕ, get_or}
use Rattle.merkle.specs.Lists.{part}
use Rattle.parameters.specs.declared.ParameterSet.{ParameterSet}

-- The set that an array is.
unfoldable pub set_of : List ℕ → ParameterSet
set_of xs = record {
  width = get_or xs 0 0;
  node_size = get_or xs 1 0;
  height = get_or xs 2 0;
  full_rounds = get_or xs 3 0;
  partial_rounds = get_or xs 4 0;
  diagonal = part 5 12 xs;
  constants = part 17 208 xs;
  inverses = part 225 12 xs;
  total_inverse = get_or xs 237 0;
}

-- The array of a set.
unfoldable pub array_of : ParameterSet → List ℕ
array_of s =
    (s.width ∷ s.node_size ∷ s.height ∷ s.full_rounds ∷ s.partial_rounds ∷ [])
    ++ (s.diagonal ++ (s.constants ++ (s.inverses ++ (s.total_inverse ∷ []))))
