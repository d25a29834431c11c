-- What is claimed of extraction: where none of refusals 1 to 12 applies, the answer is 15, 14 or a collision; and which replies are others
-- since 15 is tested before 14.
use Rattle.std.specs.Prelude.{◌≡◌, ◌≢◌, ◌↔◌, true, false, not, List, [], ◌∷◌, ◌++◌, ℕ, ◌<◌, length}
use Rattle.modular.specs.Arithmetic.{all_words}
use Rattle.refusals.specs.Table.{Refusal, refusal, first_refusal, Reply, refused, done, reply, after}
use Rattle.parameters.specs.ParameterSet.{prime_of}
use Rattle.parameters.specs.declared.ParameterSet.{ParameterSet}
use Rattle.merkle.specs.Lists.{same}
use Rattle.state_entries.specs.Permutation.{compress_under}
use Rattle.extraction_entries.specs.Extraction.{Pair, pair_refusals, both_accepted, collision, level_of, first_of, second_of, extract_reply, extracted_first, extracted_second}

-- a row: t words
abbrev pub IsRow : ParameterSet → List ℕ → Type 0
IsRow s xs = (length xs ≡ s.width) × (all_words (prime_of s) xs ≡ true)

-- Extraction of two leaves with their siblings, to two buffers, answers a level and writes two different rows that compress alike.
pub record Collides (s : ParameterSet) (two : Pair) (first second : List ℕ) : Type 0 where
  pub level : ℕ
  pub answered : extract_reply s two first second ≡ done (level ∷ [])
  pub differ : extracted_first s two first second ≢ extracted_second s two first second
  pub alike : compress_under s (extracted_first s two first second) ≡ compress_under s (extracted_second s two first second)

-- The level is one of the tree's, and each buffer holds a row.
pub record Written (s : ParameterSet) (two : Pair) (first second : List ℕ) : Type 0 where
  pub below : level_of (collision s two) < s.height
  pub rows : IsRow s (extracted_first s two first second) × IsRow s (extracted_second s two first second)

-- So it is wherever none of refusals 1 to 12 applies and two different leaves are both accepted, so that neither 15 nor 14 does (Rules 5.8).
abbrev pub Extracting : Type 0
Extracting =
    (s : ParameterSet) (two : Pair) (first second : List ℕ) → first_refusal (pair_refusals s two first second) ≡ 0
    → both_accepted s two ≡ true → two.first_leaf ≢ two.second_leaf → Collides s two first second × Written s two first second

-- The refusals in the order that they had before equal leaves came first: 1 to 12, and then 14 before 15.
abbrev pub former_refusals : ParameterSet → Pair → List ℕ → List ℕ → List Refusal
former_refusals s two first second =
    pair_refusals s two first second ++ (refusal 14 (not (both_accepted s two)) ∷ refusal 15 (same two.first_leaf two.second_leaf) ∷ [])

-- Two equal leaves, where none of refusals 1 to 12 applies, 18 among them, and at least one of the two openings is not accepted.
pub record EqualAndRejected (s : ParameterSet) (two : Pair) (first second : List ℕ) : Type 0 where
  pub passed : first_refusal (pair_refusals s two first second) ≡ 0
  pub equal : two.first_leaf ≡ two.second_leaf
  pub rejected : both_accepted s two ≡ false

-- The reply is another than a former one exactly for these leaves: 14 before, 15 now. What the buffers hold after it is the same, always.
pub record Reordered (s : ParameterSet) (two : Pair) (first second : List ℕ) (former : Reply) : Type 0 where
  pub precisely : (former ≢ extract_reply s two first second) ↔ EqualAndRejected s two first second
  pub replies : EqualAndRejected s two first second → (former ≡ refused 14) × (extract_reply s two first second ≡ refused 15)
  pub first_row : after former first (first_of (collision s two) first) ≡ extracted_first s two first second
  pub second_row : after former second (second_of (collision s two) second) ≡ extracted_second s two first second

-- So it is with the reply by the former order, whatever is handed in (Rules 5.7, 8.1).
abbrev pub EqualLeavesFirst : Type 0
EqualLeavesFirst =
    (s : ParameterSet) (two : Pair) (first second : List ℕ)
    → Reordered s two first second (reply (former_refusals s two first second) (level_of (collision s two) ∷ []))
