-- The root program (Rules 7.5, 7.6), from the bytes of its standard input to those of its standard output.
use Rattle.std.specs.Prelude.{◌≡◌, Bool, not, ◌||◌, List, [], ◌∷◌, ◌++◌, ℕ, ◌/◌, ◌%◌, eqb, ltb, length, get_or, take, drop}
use Rattle.octets.specs.Numbers.{numbers_of, decimal}
use Rattle.refusals.specs.Table.{Refusal, refusal, not_words, Reply, refused, done, reply}
use Rattle.parameters.specs.declared.ParameterSet.{ParameterSet}
use Rattle.fields.specs.Prime.{prime}
use Rattle.parameters.specs.ParameterSet.{Validation, prime_of, held, validation}
use Rattle.parameters.specs.Refusals.{constant_count, validation_refusals}
use Rattle.merkle.specs.Storeless.{storeless_root}
use Rattle.trees.specs.SetTrees.{tree_of_set, leaf_words}
use Rattle.tree_entries.specs.Trees.{has}

-- What the numbers are, in their order (Rules 7.5). Where they end within a list, this is shorter.
module _ (numbers : List ℕ) where
  abbrev pub read_width : ℕ
  read_width = get_or numbers 0 0

  abbrev pub read_node_size : ℕ
  read_node_size = get_or numbers 1 0

  abbrev pub read_height : ℕ
  read_height = get_or numbers 2 0

  abbrev pub read_full_rounds : ℕ
  read_full_rounds = get_or numbers 3 0

  abbrev pub read_partial_rounds : ℕ
  read_partial_rounds = get_or numbers 4 0

  -- D: the next t numbers, after the five
  abbrev pub read_diagonal : List ℕ
  read_diagonal = take read_width (drop 5 numbers)

  -- C: the next t × R_F + R_P
  abbrev pub read_count : ℕ
  read_count = constant_count read_width read_full_rounds read_partial_rounds

  abbrev pub read_constants : List ℕ
  read_constants = take read_count (drop read_width (drop 5 numbers))

  -- the leaves: the rest
  abbrev pub read_leaves : List ℕ
  read_leaves = drop read_count (drop read_width (drop 5 numbers))

  -- the set of the numbers that were read
  abbrev pub read_set : ParameterSet
  read_set = held prime read_width read_node_size read_height read_full_rounds read_partial_rounds read_diagonal read_constants

-- What validation answers to the numbers that were read. A list that ended too early is refused with 6, if nothing lower applies.
unfoldable pub read_validation : List ℕ → Validation
read_validation ns =
    validation prime (read_width ns) (read_node_size ns) (read_height ns) (read_full_rounds ns) (read_partial_rounds ns) (read_diagonal ns) (read_constants ns)

-- The refusals of the numbers: those of validation; then 10 and 12 for the leaves (Rules 8.8).
unfoldable pub read_refusals : List ℕ → List Refusal
read_refusals ns =
    validation_refusals prime (read_width ns) (read_node_size ns) (read_height ns) (read_full_rounds ns) (read_partial_rounds ns) (read_diagonal ns) (read_constants ns)
    ++ (refusal 10 (not (has (read_leaves ns) (leaf_words (read_set ns)))) ∷ not_words (prime_of (read_set ns)) (read_leaves ns) ∷ [])

unfoldable pub read_root : List ℕ → List ℕ
read_root ns = storeless_root (tree_of_set (read_set ns)) (read_height ns) (read_leaves ns)

-- The byte counts that are refused (Rules 7.5).
unfoldable pub bad_byte_count : ℕ → Bool
bad_byte_count n = ltb n 40 || ltb 65536 n || not (eqb (n % 8) 0)

-- The program's reply: 10 for the byte count comes before all other refusals.
unfoldable pub program_reply : List ℕ → Reply
program_reply bytes =
    let ns = numbers_of 8 (length bytes / 8) bytes in
    reply (refusal 10 (bad_byte_count (length bytes)) ∷ read_refusals ns) (read_root ns)

abbrev pub newline : ℕ
newline = 10

-- the root: each word on a line of its own (Rules 7.6)
unfoldable pub lines : List ℕ → List ℕ
lines [] = []
lines (w ∷ ws) = decimal w ++ (newline ∷ lines ws)

-- a refusal: a line with its number (Rules 7.6)
abbrev pub refused_word : List ℕ
refused_word = 114 ∷ 101 ∷ 102 ∷ 117 ∷ 115 ∷ 101 ∷ 100 ∷ 32 ∷ []

unfoldable pub refused_line : ℕ → List ℕ
refused_line n = refused_word ++ (decimal n ++ (newline ∷ []))

unfoldable pub reply_text : Reply → List ℕ
reply_text (refused n) = refused_line n
reply_text (done words) = lines words

-- The text for the numbers that were read.
abbrev pub read_text : List ℕ → List ℕ
read_text ns = reply_text (reply (read_refusals ns) (read_root ns))

-- The program's standard output for its standard input.
unfoldable pub root_text : List ℕ → List ℕ
root_text bytes = reply_text (program_reply bytes)

-- No input at all is refused with 10 (Rules 7.5).
abbrev pub EmptyInput : Type 0
EmptyInput = root_text [] ≡ refused_word ++ (49 ∷ 48 ∷ newline ∷ [])

-- The output with a text at its start: beyond the text it is as it was.
unfoldable pub written : List ℕ → List ℕ → List ℕ
written text old = text ++ drop (length text) old
