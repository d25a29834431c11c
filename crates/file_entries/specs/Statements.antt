-- What is claimed of files under a set that is accepted: different contents have different words, these are words in whole message
-- blocks, and the leaf is one that every entry takes (Rules 7.9, 7.10).
use Rattle.std.specs.Prelude.{◌≡◌, true, List, ℕ, ◌-◌, ◌%◌, ◌≤◌, length}
use Rattle.modular.specs.Arithmetic.{all_words}
use Rattle.refusals.specs.Table.{first_refusal}
use Rattle.parameters.specs.declared.ParameterSet.{ParameterSet}
use Rattle.parameters.specs.ParameterSet.{prime_of, set_refusals}
use Rattle.poseidon2.specs.Statements.{State}
use Rattle.blobs.specs.Statements.{Bytes}
use Rattle.file_entries.specs.Files.{file_words_under, file_leaf_under}

pub record FilesUnder (s : ParameterSet) : Type 0 where
  pub apart : (xs ys : List ℕ) → Bytes xs → Bytes ys → file_words_under s xs ≡ file_words_under s ys → xs ≡ ys
  pub words : (xs : List ℕ) → Bytes xs → all_words (prime_of s) (file_words_under s xs) ≡ true
  pub whole : (xs : List ℕ) → length (file_words_under s xs) % (s.width - s.node_size) ≡ 0
  pub some : (xs : List ℕ) → s.width - s.node_size ≤ length (file_words_under s xs)
  -- the leaf is l words
  pub leaf : (xs : List ℕ) → State (prime_of s) s.node_size (file_leaf_under s xs)

abbrev pub FileClaims : Type 0
FileClaims = (s : ParameterSet) → first_refusal (set_refusals s) ≡ 0 → FilesUnder s
