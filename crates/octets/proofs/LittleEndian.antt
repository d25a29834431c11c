-- Numbers of bytes, the lowest first: by their first byte, how large they are, their low bytes, and that other bytes are another number.
use mathlib.Core.Path.{◌≡◌, refl, sym, ap, ap₂, ◌∙◌}
use mathlib.Core.Bool.{true}
use mathlib.Core.List.{List, [], ◌∷◌, ◌++◌}
use Prim.Native.Nat.{ℕ, zero, suc, ◌+◌, ◌*◌, ◌-◌, ◌%◌, ◌^◌, ◌≤◌, ◌<◌}
use native.Mathlib.Nat.{pow-succ', add-mul-mod_self_left, mod-eq_of_lt, mul_assoc, mul-zero, mul-suc, add-zero, add-suc, suc-add, one-le-pow}
use native.Mathlib.Decide.{dec_lt}
use native.Mathlib.Omega.{arith}
use lib.Dec.{lit≤}
use lib.ListN.{length, get_or, take, drop, length-drop, take-append-drop, drop_of_length-le, get_or-eq_default}
use lib.Seq.{drop-cons, drop-drop, take-nil, length-take-le}
use Rattle.modular.specs.Arithmetic.{all_words}
use Rattle.modular.proofs.Words.{none_words, word_first, words_at, words_take, words_drop}
use Rattle.octets.specs.Numbers.{little_endian, numbers_of}

pub of_none : (bytes : List ℕ) → little_endian (take 0 bytes) ≡ 0
unfolding little_endian
of_none bytes = refl

-- The number of the bytes from a place on, by the first of them. Beyond the end a byte counts as 0.
pub byte_first : (n at : ℕ) (bytes : List ℕ) → little_endian (take (suc n) (drop at bytes)) ≡ get_or bytes at 0 + 256 * little_endian (take n (drop (suc at) bytes))
unfolding little_endian
byte_first n at bytes = by (dec_lt at (length bytes))
  where
    by : Dec (at < length bytes) → little_endian (take (suc n) (drop at bytes)) ≡ get_or bytes at 0 + 256 * little_endian (take n (drop (suc at) bytes))
    by (yes h) = rw (drop-cons bytes at 0 h)
    by (no h) = rw (drop_of_length-le bytes {i = at} (omega arith), drop_of_length-le bytes {i = suc at} (omega arith), get_or-eq_default bytes 0 {n = at} (omega arith), take-nil {A = ℕ} n)

-- Lists with the same bytes from two places on have the same number there.
pub same_bytes : (n at to : ℕ) (xs ys : List ℕ) → ((i : ℕ) → i < n → get_or xs (at + i) 0 ≡ get_or ys (to + i) 0)
    → little_endian (take n (drop at xs)) ≡ little_endian (take n (drop to ys))
same_bytes zero at to xs ys e = of_none (drop at xs) ∙ sym (of_none (drop to ys))
same_bytes (suc n) at to xs ys e =
    let here : get_or xs at 0 ≡ get_or ys to 0 =
    ap (λ (k : ℕ). get_or xs k 0) (sym (add-zero at)) ∙ e 0 (omega arith) ∙ ap (λ (k : ℕ). get_or ys k 0) (add-zero to) in
    let there : little_endian (take n (drop (suc at) xs)) ≡ little_endian (take n (drop (suc to) ys)) =
    same_bytes n (suc at) (suc to) xs ys
    (λ i h. ap (λ (k : ℕ). get_or xs k 0) (suc-add at i ∙ sym (add-suc at i)) ∙ e (suc i) (omega arith) ∙ ap (λ (k : ℕ). get_or ys k 0) (add-suc to i ∙ sym (suc-add to i))) in
    byte_first n at xs ∙ ap₂ (λ (b c : ℕ). b + 256 * c) here there ∙ sym (byte_first n to ys)

positive : (n : ℕ) → 0 < 256 ^ n
positive n = one-le-pow n 256 (lit≤ tt)

-- n bytes make a number below 256^n.
pub below : (n : ℕ) (bytes : List ℕ) → all_words 256 bytes ≡ true → little_endian (take n bytes) < 256 ^ n
unfolding little_endian
below zero bytes e = positive 0
below (suc n) [] e = positive (suc n)
below (suc n) (b ∷ bytes) e = omega (arith, pow-succ' 256 n, words_at 256 (b ∷ bytes) 0 e (omega arith), below n bytes (words_drop 256 1 (b ∷ bytes) e))

-- the bytes above the first n are worth 256^n
spread : (b a q c : ℕ) → b + 256 * (a + q * c) ≡ b + 256 * a + 256 * q * c
spread b a q c = omega (arith, mul_assoc 256 q c)

by_parts : (n k : ℕ) (bytes : List ℕ) → little_endian (take (n + k) bytes) ≡ little_endian (take n bytes) + 256 ^ n * little_endian (take k (drop n bytes))
unfolding little_endian
by_parts zero k bytes =
    let all : 0 + k ≡ k = omega arith in
    ap (λ (m : ℕ). little_endian (take m bytes)) all ∙ omega arith
by_parts (suc n) k [] =
    rw (take-nil {A = ℕ} (suc n + k), take-nil {A = ℕ} k, mul-zero)
by_parts (suc n) k (b ∷ bytes) =
    ap (λ (m : ℕ). little_endian (take m (b ∷ bytes))) (suc-add n k) ∙ ap (λ (c : ℕ). b + 256 * c) (by_parts n k bytes) ∙ spread b (little_endian (take n bytes)) (256 ^ n) (little_endian (take k (drop n bytes)))
    ∙ ap (λ (q : ℕ). b + 256 * little_endian (take n bytes) + q * little_endian (take k (drop n bytes))) (sym (pow-succ' 256 n))

-- The low n bytes of a number of m.
pub low_bytes : (m n : ℕ) (bytes : List ℕ) → n ≤ m → all_words 256 bytes ≡ true → little_endian (take m bytes) % 256 ^ n ≡ little_endian (take n bytes)
low_bytes m n bytes h e =
    let parts : n + (m - n) ≡ m = omega arith in
    ap (λ (c : ℕ). little_endian (take c bytes) % 256 ^ n) (sym parts) ∙ ap (λ (c : ℕ). c % 256 ^ n) (by_parts n (m - n) bytes)
    ∙ add-mul-mod_self_left (little_endian (take n bytes)) (256 ^ n) (little_endian (take (m - n) (drop n bytes))) ∙ mod-eq_of_lt (below n bytes e)

-- ---- lists of numbers

module _ (size : ℕ) where
  pub length-numbers : (n : ℕ) (bytes : List ℕ) → length (numbers_of size n bytes) ≡ n
  unfolding numbers_of
  length-numbers zero bytes = refl
  length-numbers (suc n) bytes = ap suc (length-numbers n (drop size bytes))

  -- the number at a place
  pub number_at : (n i : ℕ) (bytes : List ℕ) → i < n → get_or (numbers_of size n bytes) i 0 ≡ little_endian (take size (drop (size * i) bytes))
  unfolding numbers_of
  number_at zero i bytes h = absurd (omega arith)
  number_at (suc n) zero bytes h = ap (λ (k : ℕ). little_endian (take size (drop k bytes))) (sym (mul-zero size))
  number_at (suc n) (suc i) bytes h =
      let next : size + size * i ≡ size * suc i = omega (arith, mul-suc size i) in
      number_at n i (drop size bytes) (omega arith)
      ∙ ap (λ (xs : List ℕ). little_endian (take size xs)) (drop-drop (size * i) size bytes)
      ∙ ap (λ (k : ℕ). little_endian (take size (drop k bytes))) next

  -- one number more
  pub numbers_more : (n : ℕ) (bytes : List ℕ) → numbers_of size (suc n) bytes ≡ numbers_of size n bytes ++ (little_endian (take size (drop (size * n) bytes)) ∷ [])
  unfolding numbers_of
  numbers_more zero bytes = ap (λ (k : ℕ). little_endian (take size (drop k bytes)) ∷ []) (sym (mul-zero size))
  numbers_more (suc n) bytes =
      let next : size + size * n ≡ size * suc n = omega (arith, mul-suc size n) in
      let further : drop (size * n) (drop size bytes) ≡ drop (size * suc n) bytes = drop-drop (size * n) size bytes ∙ ap (λ (k : ℕ). drop k bytes) next in
      ap (λ (xs : List ℕ). little_endian (take size bytes) ∷ xs) (numbers_more n (drop size bytes) ∙ ap (λ (xs : List ℕ). numbers_of size n (drop size bytes) ++ (little_endian (take size xs) ∷ [])) further)

  -- each is below 256^size
  pub numbers_below : (n : ℕ) (bytes : List ℕ) → all_words 256 bytes ≡ true → all_words (256 ^ size) (numbers_of size n bytes) ≡ true
  unfolding numbers_of
  numbers_below zero bytes e = none_words (256 ^ size)
  numbers_below (suc n) bytes e =
      word_first (256 ^ size) (little_endian (take size bytes)) (numbers_of size n (drop size bytes)) (below size bytes e)
      ∙ numbers_below n (drop size bytes) (words_drop 256 size bytes e)

-- ---- other bytes are another number

-- the first byte and the others
head_apart : (x y a b : ℕ) → x < 256 → y < 256 → x + 256 * a ≡ y + 256 * b → (x ≡ y) × (a ≡ b)
head_apart x y a b h g e = (omega arith, omega arith)

number_apart : (xs ys : List ℕ) → all_words 256 xs ≡ true → all_words 256 ys ≡ true → length xs ≡ length ys → little_endian xs ≡ little_endian ys → xs ≡ ys
unfolding little_endian
number_apart [] [] h g l e = refl
number_apart [] (y ∷ ys) h g l e = absurd (omega arith)
number_apart (x ∷ xs) [] h g l e = absurd (omega arith)
number_apart (x ∷ xs) (y ∷ ys) h g l e =
    let both = head_apart x y (little_endian xs) (little_endian ys) (words_at 256 (x ∷ xs) 0 h (omega arith)) (words_at 256 (y ∷ ys) 0 g (omega arith)) e in
    ap₂ (λ (b : ℕ) (bs : List ℕ). b ∷ bs) both.0 (number_apart xs ys (words_drop 256 1 (x ∷ xs) h) (words_drop 256 1 (y ∷ ys) g) (omega arith) both.1)

of_length_zero : (xs : List ℕ) → length xs ≡ 0 → xs ≡ []
of_length_zero [] e = refl
of_length_zero (x ∷ xs) e = absurd (omega arith)

-- Two lists of whole numbers that have the same numbers are the same.
pub numbers_apart : (size n : ℕ) (xs ys : List ℕ) → all_words 256 xs ≡ true → all_words 256 ys ≡ true → length xs ≡ size * n → length ys ≡ size * n
    → numbers_of size n xs ≡ numbers_of size n ys → xs ≡ ys
unfolding numbers_of
numbers_apart size zero xs ys h g l k e = of_length_zero xs (omega (arith, l, mul-zero size)) ∙ sym (of_length_zero ys (omega (arith, k, mul-zero size)))
numbers_apart size (suc n) xs ys h g l k e =
    let next : size * suc n ≡ size * n + size = mul-suc size n in
    let first : take size xs ≡ take size ys = number_apart (take size xs) (take size ys) (words_take 256 size xs h) (words_take 256 size ys g)
    (length-take-le size xs (omega arith) ∙ sym (length-take-le size ys (omega arith))) (ap (λ (zs : List ℕ). get_or zs 0 0) e) in
    let others : drop size xs ≡ drop size ys = numbers_apart size n (drop size xs) (drop size ys) (words_drop 256 size xs h) (words_drop 256 size ys g)
    (omega (arith, length-drop size xs)) (omega (arith, length-drop size ys)) (ap (drop 1) e) in
    sym (take-append-drop size xs) ∙ ap₂ (λ (a b : List ℕ). a ++ b) first others ∙ take-append-drop size ys
