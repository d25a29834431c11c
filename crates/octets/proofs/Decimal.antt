-- Numbers in decimal: their digits one at a time, how many they are, and what bytes they are.
use mathlib.Core.Path.{◌≡◌, ap, ◌∙◌}
use mathlib.Core.Bool.{true}
use mathlib.Core.List.{List, [], ◌∷◌, ◌++◌}
use Prim.Native.Nat.{ℕ, zero, suc, ◌+◌, ◌/◌, ◌%◌, ◌^◌, ◌≤◌, ◌<◌}
use native.Mathlib.Nat.{pow-succ'}
use native.Mathlib.Decide.{dec_lt}
use native.Mathlib.Omega.{arith}
use lib.ListN.{length, get_or, length-append, get_or-append}
use lib.Seq.{get_or_at}
use borrow.Author.Tests.{lt-ltb, le-ltb}
use Rattle.modular.specs.Arithmetic.{all_words}
use Rattle.modular.proofs.Words.{words_by}
use Rattle.octets.specs.Numbers.{digits, decimal}

-- As many digits as a number needs are enough.
digits_enough : (k m n : ℕ) → n < k → n < m → digits k n ≡ digits m n
unfolding digits
digits_enough zero m n h g = absurd (omega arith)
digits_enough (suc k) zero n h g = absurd (omega arith)
digits_enough (suc k) (suc m) n h g = by (dec_lt n 10) (digits_enough k m (n / 10))
  where
    by : Dec (n < 10) → (n / 10 < k → n / 10 < m → digits k (n / 10) ≡ digits m (n / 10)) → digits (suc k) n ≡ digits (suc m) n
    by (yes b) ih = rw (lt-ltb n 10 b)
    by (no b) ih = rw (le-ltb n 10 (omega arith)) (ap (λ (xs : List ℕ). xs ++ ((48 + n % 10) ∷ [])) (ih (omega arith) (omega arith)))

-- A digit, and the last digit after the others.
pub decimal_digit : (n : ℕ) → n < 10 → decimal n ≡ (48 + n) ∷ []
unfolding decimal digits
decimal_digit n h = rw (lt-ltb n 10 h)

pub decimal_more : (n : ℕ) → 10 ≤ n → decimal n ≡ decimal (n / 10) ++ ((48 + n % 10) ∷ [])
unfolding decimal digits
decimal_more n h = rw (le-ltb n 10 h) (ap (λ (xs : List ℕ). xs ++ ((48 + n % 10) ∷ [])) (digits_enough n (suc (n / 10)) (n / 10) (omega arith) (omega arith)))

pub decimal_longer : (n : ℕ) → 10 ≤ n → length (decimal n) ≡ length (decimal (n / 10)) + 1
decimal_longer n h = ap length (decimal_more n h) ∙ length-append (decimal (n / 10)) ((48 + n % 10) ∷ [])

-- A number below 10^k has at most k digits.
pub decimal_length : (k n : ℕ) → n < 10 ^ suc k → length (decimal n) ≤ suc k
decimal_length zero n h = omega (arith, ap length (decimal_digit n (omega arith)))
decimal_length (suc k) n h = by (dec_lt n 10) (decimal_length k (n / 10) (omega (arith, pow-succ' 10 (suc k))))
  where
    by : Dec (n < 10) → length (decimal (n / 10)) ≤ suc k → length (decimal n) ≤ suc (suc k)
    by (yes b) ih = omega (arith, ap length (decimal_digit n b))
    by (no b) ih = omega (arith, decimal_longer n (omega arith))

-- A byte of the text is a digit.
abbrev Digit : ℕ → Type 0
Digit b = (48 ≤ b) × (b < 58)

-- at every place of a list that is another
at_every : {xs ys : List ℕ} → xs ≡ ys → (i : ℕ) → (i < length ys → Digit (get_or ys i 0)) → i < length xs → Digit (get_or xs i 0)
at_every e i digit h = rw e (digit (omega (arith, ap length e)))

-- at every place of a text and one digit more
one_more_lem : (front : List ℕ) (d i : ℕ) → d < 10 → (i < length front → Digit (get_or front i 0)) → i < length (front ++ ((48 + d) ∷ []))
    → Digit (get_or (front ++ ((48 + d) ∷ [])) i 0)
one_more_lem front d i few digit h = by (dec_lt i (length front))
  where
    by : Dec (i < length front) → Digit (get_or (front ++ ((48 + d) ∷ [])) i 0)
    by (yes b) = rw (get_or-append front ((48 + d) ∷ []) 0 i b) (digit b)
    by (no b) =
        let last : length front ≡ i = omega (arith, length-append front ((48 + d) ∷ [])) in
        rw (get_or_at front (48 + d) [] 0 i last) (omega arith, omega arith)

digit_in : (most n i : ℕ) → i < length (digits most n) → Digit (get_or (digits most n) i 0)
unfolding digits
digit_in zero n i h = absurd (omega arith)
digit_in (suc most) n i h = by (dec_lt n 10) (λ k. digit_in most (n / 10) i k)
  where
    by : Dec (n < 10) → (i < length (digits most (n / 10)) → Digit (get_or (digits most (n / 10)) i 0)) → Digit (get_or (digits (suc most) n) i 0)
    by (yes b) ih =
        let alone : digits (suc most) n ≡ (48 + n) ∷ [] = rw (lt-ltb n 10 b) in
        at_every alone i (λ g. one_more_lem [] n i b (λ k. absurd (omega arith)) g) h
    by (no b) ih =
        let front : digits (suc most) n ≡ digits most (n / 10) ++ ((48 + n % 10) ∷ []) = rw (le-ltb n 10 (omega arith)) in
        at_every front i (λ g. one_more_lem (digits most (n / 10)) (n % 10) i (omega arith) ih g) h

pub decimal_digits : (n i : ℕ) → i < length (decimal n) → Digit (get_or (decimal n) i 0)
unfolding decimal
decimal_digits n i h = digit_in (suc n) n i h

pub decimal_bytes : (n : ℕ) → all_words 256 (decimal n) ≡ true
decimal_bytes n = words_by 256 (decimal n) (λ i h. omega (arith, (decimal_digits n i h).1))
