-- What is claimed of the words that are drawn, for any p and any number of bits a number but 0.
use Rattle.std.specs.Prelude.{◌≡◌, true, ℕ, ◌<◌, ◌≤◌, take, length}
use Rattle.modular.specs.Arithmetic.{all_words}
use Rattle.grain.specs.Drawing.{drawn}

-- The words of m steps begin with those of n, if n is not more; and all are words.
pub record Drawings (p size : ℕ) : Type 0 where
  pub begin : (t rf rp n m : ℕ) → n ≤ m → take (length (drawn p size t rf rp n)) (drawn p size t rf rp m) ≡ drawn p size t rf rp n
  pub longer : (t rf rp n m : ℕ) → n ≤ m → length (drawn p size t rf rp n) ≤ length (drawn p size t rf rp m)
  pub words : (t rf rp n : ℕ) → all_words p (drawn p size t rf rp n) ≡ true

abbrev pub DrawingClaims : Type 0
DrawingClaims = (p size : ℕ) → 0 < size → Drawings p size
