-- Message blocks: the words of one, the state with some of them added, and the blocks of a file.
use mathlib.Core.Path.{◌≡◌, refl, sym, ap, ap₂, ◌∙◌}
use mathlib.Core.List.{List, [], ◌∷◌, ◌++◌, append_assoc}
use Prim.Native.Nat.{ℕ, zero, suc, ◌+◌, ◌*◌, ◌-◌, ◌/◌, ◌≤◌, ◌<◌}
use native.Mathlib.Nat.{mul_assoc, mul-add, mul-suc, mul-le-mul_left}
use native.Mathlib.Numerals.{add-one}
use native.Mathlib.Omega.{arith}
use lib.ListN.{length, get_or, take, drop, set, replicate, length-drop, length-set, length-append}
use lib.Seq.{drop-drop, get_or-drop, get_or-take, length-take-le, take_all, ext_get_or}
use Rattle.modular.specs.Arithmetic.{add}
use Rattle.poseidon2.specs.Statements.{Words, State}
use Rattle.merkle.specs.Lists.{part, put}
use Rattle.merkle.proofs.Lists.{length_part, put_whole}
use Rattle.octets.specs.Numbers.{little_endian, numbers_of}
use Rattle.octets.proofs.LittleEndian.{length-numbers, number_at}
use Rattle.blobs.specs.Blob.{blob_head, message, file_words}
use Rattle.blobs.specs.Absorption.{add_block, absorb, file_leaf}
use Rattle.blobs.proofs.FileWords.{block_count, words_count, word_is}
use Rattle.blobs.proofs.Absorption.{none_added, next_word, one_more_lem, none_absorbed, one_absorbed, zero_state}
use Rattle.files.proofs.MessageBytes.{marked, same_word_inside}

-- ---- a block's words

-- the numbers from a byte on, as many as the rate
abbrev pub block_from : ℕ → ℕ → ℕ → List ℕ → List ℕ
block_from size rate from bytes = numbers_of size rate (drop from bytes)

pub block_word : (size rate from i : ℕ) (bytes : List ℕ) → i < rate → get_or (block_from size rate from bytes) i 0 ≡ little_endian (take size (drop (from + size * i) bytes))
block_word size rate from i bytes h =
    number_at size rate i (drop from bytes) h ∙ ap (λ (xs : List ℕ). little_endian (take size xs)) (drop-drop (size * i) from bytes)

-- A block that stands in the contents: of the part of them from there on.
pub inner_block : (size rate from count : ℕ) (head contents : List ℕ) → length head ≤ from → from - length head + count ≤ length contents → size * rate ≤ count
    → numbers_of size rate (take (length contents - (from - length head)) (drop (from - length head) contents)) ≡ block_from size rate from (marked head contents)
inner_block size rate from count head contents behind fits all =
    let i : ℕ = from - length head in
    let rest : List ℕ = drop i contents in
    let whole : take (length contents - i) rest ≡ rest = take_all (length contents - i) rest (omega (arith, length-drop i contents)) in
    ap (numbers_of size rate) whole
    ∙ ext_get_or 0 (numbers_of size rate rest) (block_from size rate from (marked head contents))
    (length-numbers size rate rest ∙ sym (length-numbers size rate (drop from (marked head contents))))
    (λ j h. same_number j (omega (arith, length-numbers size rate rest)))
  where
    same_number : (j : ℕ) → j < rate → get_or (block_from size rate (from - length head) contents) j 0 ≡ get_or (block_from size rate from (marked head contents)) j 0
    same_number j h =
        block_word size rate (from - length head) j contents h
        ∙ same_word_inside size from head contents behind (size * j) (omega (arith, mul-suc size j, mul-le-mul_left {m = suc j} {n = rate} size h))
        ∙ sym (block_word size rate from j (marked head contents) h)

-- The first i words of a block are added to the state.
pub record Added (p size rate from : ℕ) (bytes old : List ℕ) (i : ℕ) (state : List ℕ) : Type 0 where
  pub within : i ≤ rate
  pub long : length state ≡ length old
  pub is : state ≡ add_block p i (block_from size rate from bytes) old

module _ {p size rate from : ℕ} {bytes old : List ℕ} where
  pub added_none : Added p size rate from bytes old 0 old
  added_none = record { within = omega arith; long = refl; is = sym (none_added p (block_from size rate from bytes) old) }

  -- the next word is the state's own
  pub untouched : (i : ℕ) (state : List ℕ) → i < length old → Added p size rate from bytes old i state → get_or state i 0 ≡ get_or old i 0
  untouched i state h A = ap (λ (xs : List ℕ). get_or xs i 0) A.is ∙ next_word p (block_from size rate from bytes) old i h

  pub added_word : (i : ℕ) (state : List ℕ) {word sum : ℕ} → i < rate → rate ≤ length old → Added p size rate from bytes old i state
      → word ≡ little_endian (take size (drop (from + size * i) bytes)) → sum ≡ add p (get_or state i 0) word
      → Added p size rate from bytes old (i + 1) (set state i sum)
  added_word i state {word} {sum} h fits A w s =
      let block : List ℕ = block_from size rate from bytes in
      let total : sum ≡ add p (get_or old i 0) (get_or block i 0) = s ∙ ap₂ (add p) (untouched i state (omega arith) A) (w ∙ sym (block_word size rate from i bytes h)) in
      record {
        within = omega arith;
        long = length-set state i sum ∙ A.long;
        is = ap₂ (λ (xs : List ℕ) (a : ℕ). set xs i a) A.is total ∙ one_more_lem p block old i (omega arith) ∙ ap (λ (k : ℕ). add_block p k block old) (sym (add-one i));
      }

-- ---- the blocks of a file

module _ (head contents : List ℕ) (h : head ≡ blob_head (length contents)) where
  pub message_length : length head + length contents ≡ length (message contents)
  unfolding message
  message_length = ap (λ (xs : List ℕ). length xs + length contents) h ∙ sym (length-append (blob_head (length contents)) contents)

  marked_message : marked head contents ≡ message contents ++ (1 ∷ [])
  unfolding message
  marked_message = ap (λ (xs : List ℕ). xs ++ (contents ++ (1 ∷ []))) h ∙ sym (append_assoc (blob_head (length contents)) contents (1 ∷ []))

  module _ (size rate : ℕ) (pos : 0 < size) (some : 0 < rate) where
    -- the words of a block are within the file's
    inside_words : (n : ℕ) → n < block_count size rate (length (message contents)) → rate * n + rate ≤ rate * block_count size rate (length (message contents))
    inside_words n b = omega (arith, mul-suc rate n, mul-le-mul_left {m = suc n} {n = block_count size rate (length (message contents))} rate b)

    same_word : (n i : ℕ) → n < block_count size rate (length (message contents)) → i < rate
        → get_or (block_from size rate (size * rate * n) (marked head contents)) i 0 ≡ get_or (take rate (drop (rate * n) (file_words size rate contents))) i 0
    same_word n i b g =
        let place : size * rate * n + size * i ≡ size * (rate * n + i) = ap (λ (k : ℕ). k + size * i) (mul_assoc size rate n) ∙ sym (mul-add size (rate * n) i) in
        block_word size rate (size * rate * n) i (marked head contents) g
        ∙ ap₂ (λ (k : ℕ) (xs : List ℕ). little_endian (take size (drop k xs))) place marked_message
        ∙ sym (word_is size rate (rate * n + i) contents pos some (omega (arith, inside_words n b)))
        ∙ sym (get_or-drop (rate * n) (file_words size rate contents) i 0)
        ∙ sym (get_or-take rate (drop (rate * n) (file_words size rate contents)) i 0 g)

    pub block_of_file : (n : ℕ) → n < block_count size rate (length (message contents))
        → block_from size rate (size * rate * n) (marked head contents) ≡ take rate (drop (rate * n) (file_words size rate contents))
    block_of_file n b =
        let block : List ℕ = block_from size rate (size * rate * n) (marked head contents) in
        let words : List ℕ = file_words size rate contents in
        let long : length block ≡ rate = length-numbers size rate (drop (size * rate * n) (marked head contents)) in
        let wide : length (take rate (drop (rate * n) words)) ≡ rate =
        length-take-le rate (drop (rate * n) words) (omega (arith, length-drop (rate * n) words, words_count size rate pos some contents, inside_words n b)) in
        ext_get_or 0 block (take rate (drop (rate * n) words)) (long ∙ sym wide) (λ i g. same_word n i b (omega (arith, long)))

-- The first n blocks of a file are absorbed.
pub record Absorbed (p width rate blocks : ℕ) (f : List ℕ → List ℕ) (words old : List ℕ) (n : ℕ) (state : List ℕ) : Type 0 where
  pub within : n ≤ blocks
  pub words_of : State p width state
  pub is : state ≡ absorb p rate f n words old

module _ {p width rate blocks : ℕ} {f : List ℕ → List ℕ} {words old : List ℕ} where
  pub absorbed_none : State p width old → Absorbed p width rate blocks f words old 0 old
  absorbed_none S = record { within = omega arith; words_of = S; is = sym (none_absorbed p rate f words old) }

  pub absorbed_block : (n : ℕ) (state : List ℕ) {block added permuted : List ℕ} → n < blocks → Absorbed p width rate blocks f words old n state
      → block ≡ take rate (drop (rate * n) words) → added ≡ add_block p rate block state → permuted ≡ f added → State p width (f added)
      → Absorbed p width rate blocks f words old (n + 1) permuted
  absorbed_block n state h A b a q S = record {
    within = omega arith;
    words_of = rw q S;
    is = q ∙ ap f (a ∙ ap₂ (add_block p rate) b A.is) ∙ sym (one_absorbed p rate f n words old) ∙ ap (λ (k : ℕ). absorb p rate f k words old) (sym (add-one n));
  }

-- ---- the state at the beginning, and the leaf at the end

pub zeros_taken : (n m : ℕ) → n ≤ m → take n (replicate m 0) ≡ replicate {A = ℕ} n 0
zeros_taken zero m h = refl
zeros_taken (suc n) zero h = absurd (omega arith)
zeros_taken (suc n) (suc m) h = ap (λ (xs : List ℕ). 0 ∷ xs) (zeros_taken n m (omega arith))

pub zero_words : {p : ℕ} → 0 < p → (n m : ℕ) → n ≤ m → Words p (take n (replicate m 0))
zero_words pos n m h = rw (zeros_taken n m h) (zero_state pos n).words

pub leaf_is : (p size t l m : ℕ) (f : List ℕ → List ℕ) (contents old : List ℕ) {state out : List ℕ} → l ≤ t → t ≤ m → length old ≡ l → length state ≡ t
    → state ≡ absorb p (t - l) f (length (file_words size (t - l) contents) / (t - l)) (file_words size (t - l) contents) (take t (replicate m 0))
    → out ≡ put old 0 (part 0 l state) → out ≡ file_leaf p size t l f contents
unfolding file_leaf
leaf_is p size t l m f contents old {state} fits most long wide e o =
    let words : List ℕ = file_words size (t - l) contents in
    o ∙ put_whole old (part 0 l state) (length_part 0 l state (omega arith) ∙ sym long)
    ∙ ap (take l) (e ∙ ap (absorb p (t - l) f (length words / (t - l)) words) (zeros_taken t m most))
