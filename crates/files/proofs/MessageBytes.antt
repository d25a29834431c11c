-- The bytes of a message with its mark, by where they stand; words of them, gathered or read at once; and the head.
use mathlib.Core.Path.{◌≡◌, refl, sym, ap, ap₂, ◌∙◌}
use mathlib.Core.Bool.{Bool, true, false, not, ◌||◌, false≢true}
use mathlib.Core.List.{List, [], ◌∷◌, ◌++◌}
use Prim.Native.Nat.{ℕ, suc, ◌+◌, ◌*◌, ◌-◌, ◌%◌, ◌^◌, ◌≤◌, ◌<◌}
use native.Mathlib.Nat.{pow-succ', pow-le-pow_right, mod-lt, one-le-pow}
use native.Mathlib.Omega.{arith}
use lib.Dec.{ltb, lit<, lit≤}
use lib.ListN.{length, get_or, take, drop, set, length-append, length-drop, get_or-append}
use lib.Seq.{get_or-append-add, take_all}
use borrow.Author.Tests.{ltb-false}
use Rattle.modular.specs.Arithmetic.{all_words}
use Rattle.modular.proofs.Words.{words_drop}
use Rattle.octets.specs.Numbers.{little_endian, decimal}
use Rattle.octets.proofs.Decimal.{decimal_length}
use Rattle.octets.proofs.LittleEndian.{of_none, byte_first, same_bytes, low_bytes}
use Rattle.merkle.specs.Lists.{put}
use Rattle.merkle.proofs.Lists.{length-put, part_put}
use Rattle.encoding.proofs.Texts.{put_more, put_both}
use Rattle.blobs.specs.Blob.{blob_word, blob_head}

-- The message with its mark, of its head and contents.
abbrev pub marked : List ℕ → List ℕ → List ℕ
marked head contents = head ++ (contents ++ (1 ∷ []))

-- ---- bytes

module _ (head contents : List ℕ) where
  -- a byte behind the head
  behind_head : (at : ℕ) → length head ≤ at → get_or (contents ++ (1 ∷ [])) (at - length head) 0 ≡ get_or (marked head contents) at 0
  behind_head at h =
      let k : length head + (at - length head) ≡ at = omega arith in
      sym (get_or-append-add head (contents ++ (1 ∷ [])) (at - length head) 0) ∙ ap (λ (j : ℕ). get_or (marked head contents) j 0) k

  pub contents_byte : (at : ℕ) → length head ≤ at → at - length head < length contents → get_or contents (at - length head) 0 ≡ get_or (marked head contents) at 0
  contents_byte at h g = sym (get_or-append contents (1 ∷ []) 0 (at - length head) g) ∙ behind_head at h

-- ---- a word, byte by byte from its highest

-- The number of the bytes from at + i on, to the end of the word that begins at `at`.
pub record Gathered (size at : ℕ) (xs : List ℕ) (i word : ℕ) : Type 0 where
  pub within : i ≤ size
  pub is : word ≡ little_endian (take (size - i) (drop (at + i) xs))
  pub below : word < 256 ^ (size - i)

module _ {size at : ℕ} {xs : List ℕ} where
  pub none_gathered : (i : ℕ) → i ≡ size → Gathered size at xs i 0
  none_gathered i e =
      let none : size - i ≡ 0 = omega arith in
      record {
        within = omega arith;
        is = sym (ap (λ (n : ℕ). little_endian (take n (drop (at + i) xs))) none ∙ of_none (drop (at + i) xs));
        below = one-le-pow (size - i) 256 (lit≤ tt);
      }

  -- the byte below
  pub one_gathered : (i word b : ℕ) → 0 < i → Gathered size at xs i word → b ≡ get_or xs (at + (i - 1)) 0 → b < 256 → Gathered size at xs (i - 1) (256 * word + b)
  one_gathered i word b some G e few =
      let next : size - (i - 1) ≡ suc (size - i) = omega (arith, G.within) in
      let place : suc (at + (i - 1)) ≡ at + i = omega arith in
      let more : little_endian (take (size - (i - 1)) (drop (at + (i - 1)) xs)) ≡ b + 256 * word =
      ap (λ (n : ℕ). little_endian (take n (drop (at + (i - 1)) xs))) next ∙ byte_first (size - i) (at + (i - 1)) xs
      ∙ ap₂ (λ (c d : ℕ). c + 256 * d) (sym e) (ap (λ (n : ℕ). little_endian (take (size - i) (drop n xs))) place ∙ sym G.is) in
      let power : 256 ^ (size - (i - 1)) ≡ 256 * 256 ^ (size - i) = ap (λ (n : ℕ). 256 ^ n) next ∙ pow-succ' 256 (size - i) in
      record {
        within = omega (arith, G.within);
        is = omega (arith, more);
        below = omega (arith, power, G.below);
      }

  -- there is room for one byte more
  pub room : (i word : ℕ) → size ≤ 7 → 0 < i → Gathered size at xs i word → word < 281474976710656
  room i word few some G =
      let short : size - i ≤ 6 = omega arith in
      let most : 256 ^ (size - i) ≤ 256 ^ 6 = pow-le-pow_right (lit< tt) short in
      omega (arith, most, G.below)

-- ---- the head

pub few_digits : (n : ℕ) → n ≤ 4294967295 → length (decimal n) ≤ 10
few_digits n h = decimal_length 9 n (omega arith)

pub head_fits : (n : ℕ) → n ≤ 4294967295 → length (blob_head n) ≤ 16
unfolding blob_head
head_fits n few = omega (arith, few_digits n few, length-append blob_word (decimal n ++ (0 ∷ [])), length-append (decimal n) (0 ∷ []))

-- Five bytes, the digits behind them and a zero behind these are the head.
pub head_put : (old : List ℕ) (n : ℕ) {begun counted out : List ℕ} {at end : ℕ} → length old ≡ 16 → n ≤ 4294967295
    → at ≡ 5 → begun ≡ put old 0 blob_word → end ≡ at + length (decimal n) → counted ≡ put begun at (decimal n) → out ≡ set counted end 0
    → (end + 1 ≡ length (blob_head n)) × (out ≡ put old 0 (blob_head n))
unfolding blob_head
head_put old n {begun} {counted} {out} {at} {end} long few a b e c z =
    let fits : length (decimal n) ≤ 10 = few_digits n few in
    let kept : length begun ≡ 16 = ap length b ∙ length-put old 0 blob_word (omega arith) ∙ long in
    let zeroed : out ≡ put begun at (decimal n ++ (0 ∷ [])) = put_more begun (decimal n) at 0 (omega arith) e c z in (
      omega (arith, a, e, length-append blob_word (decimal n ++ (0 ∷ [])), length-append (decimal n) (0 ∷ [])),
      zeroed ∙ ap₂ (λ (xs : List ℕ) (k : ℕ). put xs k (decimal n ++ (0 ∷ []))) b a ∙ put_both old blob_word (decimal n ++ (0 ∷ [])) 0 (omega arith),
    )

-- The head, taken from the list that it was put into.
pub head_taken : (old : List ℕ) (n : ℕ) {out : List ℕ} {end : ℕ} → length old ≡ 16 → n ≤ 4294967295 → end ≡ length (blob_head n) → out ≡ put old 0 (blob_head n)
    → take end out ≡ blob_head n
head_taken old n long few e o = ap₂ (λ (k : ℕ) (xs : List ℕ). take k xs) e o ∙ part_put old 0 (blob_head n) (omega (arith, head_fits n few))

-- ---- a word, read at once

pub read_at_once : (size at : ℕ) (bytes : List ℕ) {number n r : ℕ} → all_words 256 bytes ≡ true → size ≤ 7
    → number ≡ little_endian (take 8 (take (length bytes - at) (drop at bytes))) → n ≡ size → r ≡ number % 256 ^ n
    → (r ≡ little_endian (take size (drop at bytes))) × (r < 256 ^ size)
read_at_once size at bytes {number} {n} {r} small few e s l =
    let rest : List ℕ = drop at bytes in
    let whole : take (length bytes - at) rest ≡ rest = take_all (length bytes - at) rest (omega (arith, length-drop at bytes)) in
    let low : r ≡ little_endian (take 8 rest) % 256 ^ size = l ∙ ap₂ (λ (a b : ℕ). a % 256 ^ b) (e ∙ ap (λ (xs : List ℕ). little_endian (take 8 xs)) whole) s in
    let under : little_endian (take 8 rest) % 256 ^ size < 256 ^ size = mod-lt (little_endian (take 8 rest)) (one-le-pow size 256 (lit≤ tt)) in
    (low ∙ low_bytes 8 size rest (omega arith) (words_drop 256 at bytes small), omega (arith, low, under))

-- ---- a part of the contents in the message

module _ (size from : ℕ) (head contents : List ℕ) (behind : length head ≤ from) where
  -- the word at the same place of both
  pub same_word_inside : (k : ℕ) → from - length head + (k + size) ≤ length contents
      → little_endian (take size (drop (from - length head + k) contents)) ≡ little_endian (take size (drop (from + k) (marked head contents)))
  same_word_inside k h = same_bytes size (from - length head + k) (from + k) contents (marked head contents) (λ j b. one j b)
    where
      one : (j : ℕ) → j < size → get_or contents (from - length head + k + j) 0 ≡ get_or (marked head contents) (from + k + j) 0
      one j b =
          let place : from - length head + k + j ≡ from + k + j - length head = omega arith in
          ap (λ (m : ℕ). get_or contents m 0) place ∙ contents_byte head contents (from + k + j) (omega arith) (omega arith)

-- what it says that bytes are all of the contents
pub inside_facts : (from h n count : ℕ) {r : Bool} → r ≡ not (ltb from h || ltb n (from - h + count)) → r ≡ true → (h ≤ from) × (from - h + count ≤ n)
inside_facts from h n count e t = both (ltb from h) (ltb n (from - h + count)) refl refl (sym t ∙ e)
  where
    both : (a b : Bool) → ltb from h ≡ a → ltb n (from - h + count) ≡ b → true ≡ not (a || b) → (h ≤ from) × (from - h + count ≤ n)
    both true b p q g = absurd (false≢true (sym g))
    both false true p q g = absurd (false≢true (sym g))
    both false false p q g = (ltb-false from h p, ltb-false n (from - h + count) q)
