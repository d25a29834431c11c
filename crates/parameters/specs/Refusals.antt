-- Refusals 1 to 9 and 18 (Rules 8.1): each condition, and those of a set in their order.
use Rattle.std.specs.Prelude.{Bool, not, ◌&&◌, ◌||◌, List, [], ◌∷◌, ◌++◌, ℕ, ◌+◌, ◌*◌, ◌/◌, ◌%◌, ◌^◌, eqb, ltb, length}
use Rattle.modular.specs.Arithmetic.{all_words}
use Rattle.refusals.specs.Table.{Refusal, refusal}
use Rattle.poseidon2.specs.Layers.{sum}
use Rattle.poseidon2.specs.Inverse.{inverses, zeros}
use Rattle.kept.specs.Kept.{fits}

-- 1: the width is not 4, 8 or 12.
unfoldable pub bad_width : ℕ → Bool
bad_width t = not (eqb t 4 || eqb t 8 || eqb t 12)

-- 2: the node size is 0 or does not divide t, or the arity t / l is below 2.
unfoldable pub bad_node_size : ℕ → ℕ → Bool
bad_node_size t l = eqb l 0 || not (eqb (t % l) 0) || ltb (t / l) 2

-- 3: the full rounds are odd, 0 or above 12.
unfoldable pub bad_full_rounds : ℕ → Bool
bad_full_rounds rf = eqb (rf % 2) 1 || eqb rf 0 || ltb 12 rf

-- 4: the partial rounds are above 64.
unfoldable pub bad_partial_rounds : ℕ → Bool
bad_partial_rounds rp = ltb 64 rp

-- 5: the height is above 32, or there are over 2^32 leaves.
unfoldable pub bad_height : ℕ → ℕ → Bool
bad_height k h = ltb 32 h || ltb (2 ^ 32) (k ^ h)

-- the constants that the rounds use (Rules 2.1)
unfoldable pub constant_count : ℕ → ℕ → ℕ → ℕ
constant_count t rf rp = t * rf + rp

-- 6: D is not t numbers, or C not as many as the rounds use.
unfoldable pub bad_lengths : ℕ → ℕ → ℕ → List ℕ → List ℕ → Bool
bad_lengths t rf rp D C = not (eqb (length D) t && eqb (length C) (constant_count t rf rp))

-- 8: two or more words of D are 0.
unfoldable pub several_zeros : List ℕ → Bool
several_zeros D = ltb 1 (zeros D)

-- 9: no word of D is 0, and 1 plus the inverses of all is 0 modulo p.
unfoldable pub bad_diagonal : ℕ → List ℕ → Bool
bad_diagonal p D = eqb (zeros D) 0 && eqb ((1 + sum (inverses p D)) % p) 0

-- 18: what is kept is not the inverses of the words of D, one for each, and the inverse of 1 plus their sum (Rules 2.9).
unfoldable pub bad_kept : ℕ → List ℕ → List ℕ → ℕ → Bool
bad_kept p D es k = not (fits p D es k)

-- The refusals of the five numbers.
unfoldable pub number_refusals : ℕ → ℕ → ℕ → ℕ → ℕ → List Refusal
number_refusals t l h rf rp =
    refusal 1 (bad_width t) ∷
    refusal 2 (bad_node_size t l) ∷
    refusal 3 (bad_full_rounds rf) ∷
    refusal 4 (bad_partial_rounds rp) ∷
    refusal 5 (bad_height (t / l) h) ∷ []

-- The refusals of a D that is words: those by which M_I has to have an inverse (Statements).
unfoldable pub diagonal_refusals : ℕ → List ℕ → List Refusal
diagonal_refusals p D =
    refusal 8 (several_zeros D) ∷
    refusal 9 (bad_diagonal p D) ∷ []

-- 7, a number of D or C is not a word; then 8 and 9. The lists are those of the used places.
unfoldable pub list_refusals : ℕ → List ℕ → List ℕ → List Refusal
list_refusals p D C = refusal 7 (not (all_words p D && all_words p C)) ∷ diagonal_refusals p D

-- The refusals of the used places of a set that is handed in: 18 is the last (Rules 2.7).
unfoldable pub used_refusals : ℕ → List ℕ → List ℕ → List ℕ → ℕ → List Refusal
used_refusals p D C es k = list_refusals p D C ++ (refusal 18 (bad_kept p D es k) ∷ [])

-- The first and the last of these, as they are tested: 7 and 8 before a product is made, 9 and 18 together.
unfoldable pub word_refusals : ℕ → List ℕ → List ℕ → List Refusal
word_refusals p D C =
    refusal 7 (not (all_words p D && all_words p C)) ∷
    refusal 8 (several_zeros D) ∷ []

unfoldable pub kept_refusals : ℕ → List ℕ → List ℕ → ℕ → List Refusal
kept_refusals p D es k =
    refusal 9 (bad_diagonal p D) ∷
    refusal 18 (bad_kept p D es k) ∷ []

-- The refusals of the five numbers and of the lists' lengths.
unfoldable pub shape_refusals : ℕ → ℕ → ℕ → ℕ → ℕ → List ℕ → List ℕ → List Refusal
shape_refusals t l h rf rp D C = number_refusals t l h rf rp ++ (refusal 6 (bad_lengths t rf rp D C) ∷ [])

-- The refusals by which validation goes: of the five numbers, of the lists' lengths, of the lists.
unfoldable pub validation_refusals : ℕ → ℕ → ℕ → ℕ → ℕ → ℕ → List ℕ → List ℕ → List Refusal
validation_refusals p t l h rf rp D C = number_refusals t l h rf rp ++ (refusal 6 (bad_lengths t rf rp D C) ∷ list_refusals p D C)
