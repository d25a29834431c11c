-- What is drawn from bits: kept bits pair by pair, numbers one by one, the words among them; and that more bits change nothing that is drawn.
use mathlib.Core.Path.{◌≡◌, refl, sym, ap, ap₂, ◌∙◌}
use mathlib.Core.Bool.{Bool, true, false, cond}
use mathlib.Core.List.{List, [], ◌∷◌, ◌++◌, append_assoc}
use Prim.Native.Nat.{ℕ, zero, suc, ◌+◌, ◌*◌, ◌/◌, ◌^◌, ◌≤◌, ◌<◌}
use native.Mathlib.Nat.{add-div_right, div-eq_of_lt, pow-suc, mul_assoc, mul_comm}
use native.Mathlib.Numerals.{add-one}
use native.Mathlib.Decide.{dec_lt}
use native.Mathlib.Omega.{arith}
use lib.Dec.{eqb}
use lib.ListN.{length, take, drop, length-append, length-drop, take-append-drop}
use lib.Seq.{take_at, drop_at, length-take-le}
use borrow.Author.Tests.{lt-ltb, le-ltb}
use Rattle.modular.specs.Arithmetic.{is_word, all_words}
use Rattle.modular.proofs.Words.{none_words, word_first}
use Rattle.grain.specs.Drawing.{kept, number_of, numbers_of, complete_numbers, words_among}

-- ---- kept bits

pub kept_none : kept [] ≡ []
unfolding kept
kept_none = refl

pub kept_single : (a : ℕ) → kept (a ∷ []) ≡ []
unfolding kept
kept_single a = refl

pub kept_one : (a b : ℕ) (bits : List ℕ) → eqb a 1 ≡ true → kept (a ∷ b ∷ bits) ≡ b ∷ kept bits
unfolding kept
kept_one a b bits e = rw e

pub kept_zero : (a b : ℕ) (bits : List ℕ) → eqb a 1 ≡ false → kept (a ∷ b ∷ bits) ≡ kept bits
unfolding kept
kept_zero a b bits e = rw e

-- ---- numbers

-- one bit more
pub number_more : (bits : List ℕ) (b : ℕ) → number_of (bits ++ (b ∷ [])) ≡ 2 * number_of bits + b
unfolding number_of
number_more [] b = omega arith
number_more (a ∷ bits) b =
    let long : length (bits ++ (b ∷ [])) ≡ suc (length bits) = length-append bits (b ∷ []) ∙ omega arith in
    let power : a * 2 ^ length (bits ++ (b ∷ [])) ≡ 2 * (a * 2 ^ length bits) =
    ap (λ (n : ℕ). a * 2 ^ n) long ∙ ap (λ (n : ℕ). a * n) (pow-suc 2 (length bits) ∙ mul_comm (2 ^ length bits) 2) ∙ sym (mul_assoc a 2 (2 ^ length bits)) ∙ ap (λ (n : ℕ). n * 2 ^ length bits) (mul_comm a 2) ∙ mul_assoc 2 a (2 ^ length bits) in
    omega (arith, power, number_more bits b)

module _ (size : ℕ) (some : 0 < size) where
  pub complete_none : (bits : List ℕ) → length bits < size → complete_numbers size bits ≡ []
  unfolding complete_numbers numbers_of
  complete_none bits h = rw (div-eq_of_lt h)

  pub complete_first : (first bits : List ℕ) → length first ≡ size → complete_numbers size (first ++ bits) ≡ number_of first ∷ complete_numbers size bits
  unfolding complete_numbers numbers_of
  complete_first first bits e =
      let long : length (first ++ bits) ≡ length bits + size = omega (arith, length-append first bits) in
      let count : length (first ++ bits) / size ≡ suc (length bits / size) = ap (λ (n : ℕ). n / size) long ∙ add-div_right (length bits) some ∙ add-one (length bits / size) in
      ap (λ (n : ℕ). numbers_of size n (first ++ bits)) count
      ∙ ap₂ (λ (xs ys : List ℕ). number_of xs ∷ numbers_of size (length bits / size) ys) (take_at first bits size e) (drop_at first bits size e)

-- ---- words

pub words_none : (p : ℕ) → words_among p [] ≡ []
unfolding words_among
words_none p = refl

pub word_kept : (p n : ℕ) (numbers : List ℕ) → n < p → words_among p (n ∷ numbers) ≡ n ∷ words_among p numbers
unfolding words_among is_word
word_kept p n numbers h = rw (lt-ltb n p h)

pub word_dropped : (p n : ℕ) (numbers : List ℕ) → p ≤ n → words_among p (n ∷ numbers) ≡ words_among p numbers
unfolding words_among is_word
word_dropped p n numbers h = rw (le-ltb n p h)

pub words_are : (p : ℕ) (numbers : List ℕ) → all_words p (words_among p numbers) ≡ true
words_are p [] = ap (all_words p) (words_none p) ∙ none_words p
words_are p (n ∷ numbers) = by (words_are p numbers) (dec_lt n p)
  where
    by : all_words p (words_among p numbers) ≡ true → Dec (n < p) → all_words p (words_among p (n ∷ numbers)) ≡ true
    by rest (yes h) = ap (all_words p) (word_kept p n numbers h) ∙ word_first p n (words_among p numbers) h ∙ rest
    by rest (no h) = ap (all_words p) (word_dropped p n numbers (omega arith)) ∙ rest

-- ---- more bits

-- A list begins with another.
pub record Begins (first all : List ℕ) : Type 0 where
  pub rest : List ℕ
  pub is : all ≡ first ++ rest

pub begins_none : (all : List ℕ) → Begins [] all
begins_none all = record { rest = all; is = refl }

begins_cons : (a : ℕ) {first all : List ℕ} → Begins first all → Begins (a ∷ first) (a ∷ all)
begins_cons a B = record { rest = B.rest; is = ap (λ (xs : List ℕ). a ∷ xs) B.is }

kept_begins : (first more : List ℕ) → Begins (kept first) (kept (first ++ more))
unfolding kept
kept_begins [] more = begins_none (kept more)
kept_begins (a ∷ []) more = begins_none (kept (a ∷ more))
kept_begins (a ∷ b ∷ first) more = by (eqb a 1) (kept_begins first more)
  where
    by : (one : Bool) → Begins (kept first) (kept (first ++ more)) → Begins (cond one (b ∷ kept first) (kept first)) (cond one (b ∷ kept (first ++ more)) (kept (first ++ more)))
    by true B = begins_cons b B
    by false B = B

module _ (size : ℕ) (some : 0 < size) where
  -- the first number is apart from the others, with more bits behind them or not
  complete_apart : (first more : List ℕ) → size ≤ length first
      → Begins (complete_numbers size (drop size first)) (complete_numbers size (drop size first ++ more)) → Begins (complete_numbers size first) (complete_numbers size (first ++ more))
  complete_apart first more h B =
      let one : length (take size first) ≡ size = length-take-le size first h in
      let apart : first ≡ take size first ++ drop size first = sym (take-append-drop size first) in
      let here : complete_numbers size first ≡ number_of (take size first) ∷ complete_numbers size (drop size first) =
      ap (complete_numbers size) apart ∙ complete_first size some (take size first) (drop size first) one in
      let there : complete_numbers size (first ++ more) ≡ number_of (take size first) ∷ complete_numbers size (drop size first ++ more) =
      ap (λ (xs : List ℕ). complete_numbers size (xs ++ more)) apart ∙ ap (complete_numbers size) (append_assoc (take size first) (drop size first) more)
      ∙ complete_first size some (take size first) (drop size first ++ more) one in
      record { rest = B.rest; is = there ∙ ap (λ (xs : List ℕ). number_of (take size first) ∷ xs) B.is ∙ ap (λ (xs : List ℕ). xs ++ B.rest) (sym here) }

  complete_short : (first more : List ℕ) → length first < size → Begins (complete_numbers size first) (complete_numbers size (first ++ more))
  complete_short first more h = record { rest = complete_numbers size (first ++ more); is = ap (λ (xs : List ℕ). xs ++ complete_numbers size (first ++ more)) (sym (complete_none size some first h)) }

  complete_begins : (fuel : ℕ) (first more : List ℕ) → length first ≤ fuel → Begins (complete_numbers size first) (complete_numbers size (first ++ more))
  complete_begins zero first more few = complete_short first more (omega arith)
  complete_begins (suc n) first more few =
      by (dec_lt (length first) size) (λ h. complete_begins n (drop size first) more (omega (arith, length-drop size first)))
    where
      by : Dec (length first < size) → (size ≤ length first → Begins (complete_numbers size (drop size first)) (complete_numbers size (drop size first ++ more)))
          → Begins (complete_numbers size first) (complete_numbers size (first ++ more))
      by (yes h) again = complete_short first more h
      by (no h) again = let l : size ≤ length first = omega arith in complete_apart first more l (again l)

words_append : (p : ℕ) (xs ys : List ℕ) → words_among p (xs ++ ys) ≡ words_among p xs ++ words_among p ys
words_append p [] ys = ap (λ (zs : List ℕ). zs ++ words_among p ys) (sym (words_none p))
words_append p (n ∷ xs) ys = by (words_append p xs ys) (dec_lt n p)
  where
    by : words_among p (xs ++ ys) ≡ words_among p xs ++ words_among p ys → Dec (n < p) → words_among p (n ∷ (xs ++ ys)) ≡ words_among p (n ∷ xs) ++ words_among p ys
    by rest (yes h) = word_kept p n (xs ++ ys) h ∙ ap (λ (zs : List ℕ). n ∷ zs) rest ∙ ap (λ (zs : List ℕ). zs ++ words_among p ys) (sym (word_kept p n xs h))
    by rest (no h) =
        let out : p ≤ n = omega arith in
        word_dropped p n (xs ++ ys) out ∙ rest ∙ ap (λ (zs : List ℕ). zs ++ words_among p ys) (sym (word_dropped p n xs out))

-- What is drawn of bits stays where more bits follow.
pub drawing_begins : (p size : ℕ) → 0 < size → (first more : List ℕ) → Begins (words_among p (complete_numbers size (kept first))) (words_among p (complete_numbers size (kept (first ++ more))))
drawing_begins p size some first more =
    let K = kept_begins first more in
    let N = complete_begins size some (length (kept first)) (kept first) K.rest (omega arith) in
    record {
      rest = words_among p N.rest;
      is = ap (λ (xs : List ℕ). words_among p (complete_numbers size xs)) K.is ∙ ap (words_among p) N.is ∙ words_append p (complete_numbers size (kept first)) N.rest;
    }
