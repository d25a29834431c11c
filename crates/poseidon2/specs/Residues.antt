-- The fast path works on any numbers and means their residues.
use Rattle.std.specs.Prelude.{List, map, ℕ, ◌%◌}

-- The words that numbers stand for.
unfoldable pub residues : ℕ → List ℕ → List ℕ
residues p xs = map (λ x. x % p) xs
