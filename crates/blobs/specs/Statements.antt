-- What is claimed of a file's words, for every number of bytes a word and every rate (Rules 7.8, 7.9).
use Rattle.std.specs.Prelude.{◌≡◌, true, List, ℕ, ◌+◌, ◌%◌, ◌^◌, ◌<◌, ◌≤◌, length}
use Rattle.modular.specs.Arithmetic.{all_words}
use Rattle.blobs.specs.Blob.{shortfall, file_words}

-- Each number is below 256.
abbrev pub Bytes : List ℕ → Type 0
Bytes xs = all_words 256 xs ≡ true

-- The zero bytes of the padding reach a multiple of m, and fewer do not.
pub record Fewest (m n : ℕ) : Type 0 where
  pub reach : (n + shortfall m n) % m ≡ 0
  pub least : (z : ℕ) → (n + z) % m ≡ 0 → shortfall m n ≤ z

pub record WordsOfFiles (size rate : ℕ) : Type 0 where
  -- different contents have different words
  pub apart : (xs ys : List ℕ) → Bytes xs → Bytes ys → file_words size rate xs ≡ file_words size rate ys → xs ≡ ys
  -- each is a word of every p that is large enough
  pub words : (p : ℕ) → 256 ^ size ≤ p → (xs : List ℕ) → Bytes xs → all_words p (file_words size rate xs) ≡ true
  -- they are whole message blocks, at least one
  pub whole : (xs : List ℕ) → length (file_words size rate xs) % rate ≡ 0
  pub some : (xs : List ℕ) → rate ≤ length (file_words size rate xs)

pub record Claims : Type 0 where
  pub padding : (m n : ℕ) → 0 < m → Fewest m n
  pub files : (size rate : ℕ) → 0 < size → 0 < rate → WordsOfFiles size rate
