-- The tree of a parameter set: merkle's definitions at Poseidon2's compression.
use Rattle.std.specs.Prelude.{List, ℕ, ◌+◌, ◌*◌, ◌/◌, ◌^◌, ◌≤◌, take}
use Rattle.fields.specs.Prime.{prime}
use Rattle.poseidon2.specs.Compression.{compress}
use Rattle.poseidon2.specs.Statements.{Width, Words}
use Rattle.merkle.specs.Levels.{Shape}
use Rattle.merkle.specs.Replacement.{Counted}
use Rattle.trees.specs.declared.Dimensions.{Dimensions}

-- the shape of arity k and node size l, its rows compressed by Poseidon2 modulo q
abbrev pub shape_of : ℕ → ℕ → ℕ → ℕ → ℕ → List ℕ → List ℕ → Shape
shape_of q k l half rp D C = record { arity = k; node_size = l; compress = compress q l half rp D C }

-- of width t: the arity is t / l (Rules 2.2)
abbrev pub shape : ℕ → ℕ → ℕ → ℕ → ℕ → List ℕ → List ℕ → Shape
shape q t l half rp D C = shape_of q (t / l) l half rp D C

-- a set's numbers, as the code holds them
abbrev pub dimensions : ℕ → ℕ → ℕ → ℕ → ℕ → Dimensions
dimensions t l h rf rp = record { arity = t / l; node_size = l; height = h; half = rf / 2; partial_rounds = rp }

-- the prime of such numbers: today one for every tree
abbrev pub prime_of_tree : Dimensions → ℕ
prime_of_tree d = prime

-- the shape of such numbers, modulo their prime
abbrev pub tree : Dimensions → List ℕ → List ℕ → Shape
tree d D C = shape_of (prime_of_tree d) d.arity d.node_size d.half d.partial_rounds D C

-- What refusals 1 to 5 leave of a set's numbers (Rules 2.1): the width t = k × l, two nodes or more to a row, at most 32 levels above the
-- leaves and at most 2^32 leaves, an even number of full rounds from 2 to 12, and at most 64 partial rounds.
pub record ValidNumbers (d : Dimensions) : Type 0 where
  pub width : Width (d.arity * d.node_size)
  pub several : 2 ≤ d.arity
  pub low : d.height ≤ 32
  pub few : d.arity ^ d.height ≤ 4294967296
  pub some_rounds : 1 ≤ d.half
  pub full_rounds : d.half ≤ 6
  pub partial_rounds : d.partial_rounds ≤ 64

-- And what refusal 7 leaves of its constants: the used ones are words.
pub record ValidSet (d : Dimensions) (C : List ℕ) : Type 0 where
  pub numbers : ValidNumbers d
  pub words : Words (prime_of_tree d) (take (d.arity * d.node_size * (2 * d.half) + d.partial_rounds) C)

-- a store and a count
abbrev pub counted : List ℕ → ℕ → Counted
counted store made = record { store = store; made = made }
