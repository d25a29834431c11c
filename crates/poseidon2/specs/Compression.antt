-- The compression of t words (Rules 4.1).
use Rattle.std.specs.Prelude.{List, ℕ, take}
use Rattle.poseidon2.specs.Layers.{add_lists}
use Rattle.poseidon2.specs.Rounds.{permute}

-- The words are added to their permutation, and the first l of the sum are kept.
unfoldable pub compress : ℕ → ℕ → ℕ → ℕ → List ℕ → List ℕ → List ℕ → List ℕ
compress p l half rp D C xs = take l (add_lists p (permute p half rp D C xs) xs)
