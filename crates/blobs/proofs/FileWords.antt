-- A file's words: how many they are, what the one at a place is, that they are words, and that they say what the file is.
use mathlib.Core.Path.{◌≡◌, refl, sym, ap, ◌∙◌}
use mathlib.Core.Bool.{true}
use mathlib.Core.List.{List, [], ◌∷◌, ◌++◌}
use Prim.Native.Nat.{ℕ, ◌+◌, ◌*◌, ◌-◌, ◌/◌, ◌%◌, ◌^◌, ◌≤◌, ◌<◌}
use native.Mathlib.Nat.{mul_assoc, mul-pos, mul-div_right, mul-mod_right, mul-add, mul-one}
use native.Mathlib.Decide.{dec_lt}
use native.Mathlib.Omega.{arith}
use lib.ListN.{length, get_or, take, drop, replicate, length-replicate, get_or-replicate, get_or-append, get_or-eq_default}
use lib.Seq.{get_or-append-add}
use Rattle.modular.specs.Arithmetic.{is_word, all_words}
use Rattle.modular.proofs.Words.{words_append, words_by, words_at}
use Rattle.octets.specs.Numbers.{little_endian, numbers_of, decimal}
use Rattle.octets.proofs.Decimal.{decimal_bytes}
use Rattle.octets.proofs.LittleEndian.{same_bytes, length-numbers, number_at, numbers_below, numbers_apart}
use Rattle.blobs.specs.Blob.{blob_word, blob_head, message, shortfall, padded_to, packed, file_words}
use Rattle.blobs.specs.Statements.{Bytes}
use Rattle.blobs.proofs.Padding.{padded_length}
use Rattle.blobs.proofs.Apart.{padding_apart, message_apart}

-- ---- how many

-- the message blocks that a message of n bytes makes
abbrev pub block_count : ℕ → ℕ → ℕ → ℕ
block_count size rate n = n / (size * rate) + 1

module _ (size rate : ℕ) (pos : 0 < size) (some : 0 < rate) (contents : List ℕ) where
  padded : List ℕ
  padded = padded_to (size * rate) (message contents)

  blocks : ℕ
  blocks = block_count size rate (length (message contents))

  -- the padded message is whole words
  padded_whole : length padded ≡ size * (rate * blocks)
  unfolding padded blocks
  padded_whole = padded_length (size * rate) (message contents) (mul-pos pos some) ∙ mul_assoc size rate (length (message contents) / (size * rate) + 1)

  words_in : length padded / size ≡ rate * blocks
  words_in = ap (λ (n : ℕ). n / size) padded_whole ∙ mul-div_right (rate * blocks) pos

  pub words_count : length (file_words size rate contents) ≡ rate * block_count size rate (length (message contents))
  unfolding file_words packed padded blocks
  words_count = length-numbers size (length padded / size) padded ∙ words_in

  pub words_whole : length (file_words size rate contents) % rate ≡ 0
  words_whole = ap (λ (n : ℕ). n % rate) words_count ∙ mul-mod_right rate (block_count size rate (length (message contents)))

  pub words_some : rate ≤ length (file_words size rate contents)
  words_some =
      let k : ℕ = length (message contents) / (size * rate) in
      omega (arith, words_count, mul-add rate k 1, mul-one rate)

  pub block_count_lem : length (file_words size rate contents) / rate ≡ block_count size rate (length (message contents))
  block_count_lem = ap (λ (n : ℕ). n / rate) words_count ∙ mul-div_right (block_count size rate (length (message contents))) some

-- ---- which

-- zeros at the end change no number that is read
pub zero_beyond : (z i : ℕ) → get_or {A = ℕ} (replicate z 0) i 0 ≡ 0
zero_beyond z i = by (dec_lt i z)
  where
    by : Dec (i < z) → get_or {A = ℕ} (replicate z 0) i 0 ≡ 0
    by (yes h) = get_or-replicate {A = ℕ} z i 0 0 h
    by (no h) = get_or-eq_default {A = ℕ} (replicate z 0) 0 {n = i} (omega (arith, length-replicate {A = ℕ} z 0))

filled : (xs : List ℕ) (z i : ℕ) → get_or (xs ++ replicate z 0) i 0 ≡ get_or xs i 0
filled xs z i = by (dec_lt i (length xs))
  where
    by : Dec (i < length xs) → get_or (xs ++ replicate z 0) i 0 ≡ get_or xs i 0
    by (yes h) = get_or-append xs (replicate z 0) 0 i h
    by (no h) =
        let k : length xs + (i - length xs) ≡ i = omega arith in
        ap (λ (j : ℕ). get_or (xs ++ replicate z 0) j 0) (sym k) ∙ get_or-append-add xs (replicate z 0) (i - length xs) 0
        ∙ zero_beyond z (i - length xs) ∙ sym (get_or-eq_default xs 0 {n = i} (omega arith))

padded_at : (m : ℕ) (xs : List ℕ) (i : ℕ) → get_or (padded_to m xs) i 0 ≡ get_or (xs ++ (1 ∷ [])) i 0
unfolding padded_to
padded_at m xs i = filled (xs ++ (1 ∷ [])) (shortfall m (length (xs ++ (1 ∷ [])))) i

-- The word at a place, from the message with its mark: the zeros behind it count for nothing.
pub word_is : (size rate i : ℕ) (contents : List ℕ) → 0 < size → 0 < rate → i < rate * block_count size rate (length (message contents))
    → get_or (file_words size rate contents) i 0 ≡ little_endian (take size (drop (size * i) (message contents ++ (1 ∷ []))))
unfolding file_words packed padded blocks
word_is size rate i contents pos some h =
    let bytes : List ℕ = padded_to (size * rate) (message contents) in
    number_at size (length bytes / size) i bytes (omega (arith, h, words_in size rate pos some contents))
    ∙ same_bytes size (size * i) (size * i) bytes (message contents ++ (1 ∷ [])) (λ j k. padded_at (size * rate) (message contents) (size * i + j))

-- ---- that they are words

pub head_bytes : (n : ℕ) → Bytes (blob_head n)
unfolding blob_head all_words is_word
head_bytes n = words_append 256 blob_word (decimal n ++ (0 ∷ [])) refl (words_append 256 (decimal n) (0 ∷ []) (decimal_bytes n) refl)

message_bytes : (contents : List ℕ) → Bytes contents → Bytes (message contents)
unfolding message
message_bytes contents e = words_append 256 (blob_head (length contents)) contents (head_bytes (length contents)) e

zero_bytes : (z : ℕ) → Bytes (replicate z 0)
zero_bytes z = words_by 256 (replicate z 0) (λ i h. omega (arith, zero_beyond z i))

padded_bytes : (m : ℕ) (xs : List ℕ) → Bytes xs → Bytes (padded_to m xs)
unfolding padded_to all_words is_word
padded_bytes m xs e = words_append 256 (xs ++ (1 ∷ [])) (replicate (shortfall m (length (xs ++ (1 ∷ [])))) 0) (words_append 256 xs (1 ∷ []) e refl) (zero_bytes (shortfall m (length (xs ++ (1 ∷ [])))))

-- words of one number are words of a larger
larger : (a p : ℕ) (xs : List ℕ) → a ≤ p → all_words a xs ≡ true → all_words p xs ≡ true
larger a p xs h e = words_by p xs (λ i k. omega (arith, h, words_at a xs i e k))

pub words_are : (size rate p : ℕ) → 256 ^ size ≤ p → (contents : List ℕ) → Bytes contents → all_words p (file_words size rate contents) ≡ true
unfolding file_words packed
words_are size rate p h contents e =
    let bytes : List ℕ = padded_to (size * rate) (message contents) in
    larger (256 ^ size) p (numbers_of size (length bytes / size) bytes) h
    (numbers_below size (length bytes / size) bytes (padded_bytes (size * rate) (message contents) (message_bytes contents e)))

-- ---- that they say what the file is

pub words_apart : (size rate : ℕ) → 0 < size → 0 < rate → (xs ys : List ℕ) → Bytes xs → Bytes ys → file_words size rate xs ≡ file_words size rate ys → xs ≡ ys
unfolding file_words packed padded blocks
words_apart size rate pos some xs ys h g e =
    let m : ℕ = size * rate in
    let P : List ℕ = padded_to m (message xs) in
    let Q : List ℕ = padded_to m (message ys) in
    let count : length P / size ≡ length Q / size = sym (length-numbers size (length P / size) P) ∙ ap length e ∙ length-numbers size (length Q / size) Q in
    let long : length P ≡ size * (length P / size) = padded_whole size rate pos some xs ∙ ap (λ (n : ℕ). size * n) (sym (words_in size rate pos some xs)) in
    let wide : length Q ≡ size * (length P / size) = padded_whole size rate pos some ys ∙ ap (λ (n : ℕ). size * n) (sym (words_in size rate pos some ys) ∙ sym count) in
    let same : numbers_of size (length P / size) P ≡ numbers_of size (length P / size) Q = e ∙ ap (λ (n : ℕ). numbers_of size n Q) (sym count) in
    message_apart xs ys (padding_apart m (message xs) (message ys)
    (numbers_apart size (length P / size) P Q (padded_bytes m (message xs) (message_bytes xs h)) (padded_bytes m (message ys) (message_bytes ys g)) long wide same))
