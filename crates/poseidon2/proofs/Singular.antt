-- The D's that are not accepted: M_I takes two different states to one.
use mathlib.Core.Path.{◌≡◌, refl, sym, ap, ◌∙◌}
use mathlib.Core.Logic.{◌≢◌}
use mathlib.Core.List.{List, [], ◌∷◌, map}
use Prim.Native.Nat.{ℕ, zero, suc, ◌+◌, ◌*◌, ◌%◌, ◌<◌}
use native.Mathlib.Nat.{add-zero, zero-add, zero-mul, mul-zero, mod-eq_of_lt, zero-mod}
use native.Mathlib.Omega.{arith}
use lib.ListN.{length, get_or, drop, length-map}
use Rattle.modular.specs.Arithmetic.{inverse}
use Rattle.modular.specs.PrimeField.{Inverses}
use Rattle.modular.proofs.Congruence.{refl≈, add≈}
use Rattle.poseidon2.specs.Layers.{sum, plus_multiples, internal}
use Rattle.poseidon2.specs.Inverse.{inverses, zeros}
use Rattle.poseidon2.specs.Statements.{Words, State, Merges, Singular}
use Rattle.poseidon2.proofs.Words.{cons_eq, words_none, words_more, words_map}
use Rattle.poseidon2.proofs.Zeros.{zeros_here, zeros_later, above_zero, nonzero_at}
use Rattle.poseidon2.proofs.Internal.{Units, no_unit, and_unit, inverses_units}

-- as many words as D has, all of them x
abbrev all_as : ℕ → List ℕ → List ℕ
all_as x D = map (λ (d : ℕ). x) D

-- 1 at the n-th zero of D, counted from 0, and 0 elsewhere
abbrev one_at : ℕ → List ℕ → List ℕ
one_at n [] = []
one_at zero (zero ∷ D) = 1 ∷ all_as 0 D
one_at (suc n) (zero ∷ D) = 0 ∷ one_at n D
one_at zero (suc d ∷ D) = 0 ∷ one_at zero D
one_at (suc n) (suc d ∷ D) = 0 ∷ one_at (suc n) D

sum_zeros : (D : List ℕ) → sum (all_as 0 D) ≡ 0
unfolding sum
sum_zeros [] = refl
sum_zeros (d ∷ D) = zero-add (sum (all_as 0 D)) ∙ sum_zeros D

one_at-length : (n : ℕ) (D : List ℕ) → length (one_at n D) ≡ length D
one_at-length n [] = refl
one_at-length zero (zero ∷ D) = ap suc (length-map D (λ (d : ℕ). 0))
one_at-length (suc n) (zero ∷ D) = ap suc (one_at-length n D)
one_at-length zero (suc d ∷ D) = ap suc (one_at-length zero D)
one_at-length (suc n) (suc d ∷ D) = ap suc (one_at-length (suc n) D)

one_at-sum : (n : ℕ) (D : List ℕ) → n < zeros D → sum (one_at n D) ≡ 1
unfolding sum zeros
one_at-sum n [] h = absurd (omega arith)
one_at-sum zero (zero ∷ D) h = omega (arith, sum_zeros D)
one_at-sum (suc n) (zero ∷ D) h = omega (arith, one_at-sum n D (omega (arith, zeros_here 0 D refl)))
one_at-sum zero (suc d ∷ D) h = omega (arith, one_at-sum zero D (omega (arith, zeros_later (suc d) D (above_zero d))))
one_at-sum (suc n) (suc d ∷ D) h = omega (arith, one_at-sum (suc n) D (omega (arith, zeros_later (suc d) D (above_zero d))))

-- where D has its zeros the sum alone is left
no_first : (p s x : ℕ) → (s + 0 * x) % p ≡ s % p
no_first p s x = ap (λ (n : ℕ). (s + n) % p) (zero-mul x) ∙ ap (λ (n : ℕ). n % p) (add-zero s)

no_second : (p s d : ℕ) → (s + d * 0) % p ≡ s % p
no_second p s d = ap (λ (n : ℕ). (s + n) % p) (mul-zero d) ∙ ap (λ (n : ℕ). n % p) (add-zero s)

zeros_image : (p s : ℕ) (D : List ℕ) → plus_multiples p s D (all_as 0 D) ≡ all_as (s % p) D
unfolding plus_multiples
zeros_image p s [] = refl
zeros_image p s (d ∷ D) = cons_eq (no_second p s d) (zeros_image p s D)

one_at_image : (p s n : ℕ) (D : List ℕ) → plus_multiples p s D (one_at n D) ≡ all_as (s % p) D
unfolding plus_multiples
one_at_image p s n [] = refl
one_at_image p s zero (zero ∷ D) = cons_eq (no_first p s 1) (zeros_image p s D)
one_at_image p s (suc n) (zero ∷ D) = cons_eq (no_first p s 0) (one_at_image p s n D)
one_at_image p s zero (suc d ∷ D) = cons_eq (no_second p s (suc d)) (one_at_image p s zero D)
one_at_image p s (suc n) (suc d ∷ D) = cons_eq (no_second p s (suc d)) (one_at_image p s (suc n) D)

one_at-different : (D : List ℕ) → 1 < zeros D → one_at 0 D ≢ one_at 1 D
unfolding zeros
one_at-different [] h e = absurd (omega arith)
one_at-different (zero ∷ D) h e =
    let f : suc 0 ≡ 0 = ap (λ (xs : List ℕ). get_or xs 0 0) e in
    absurd (omega arith)
one_at-different (suc d ∷ D) h e = one_at-different D (omega (arith, zeros_later (suc d) D (above_zero d))) (ap (drop 1) e)

module _ {p : ℕ} (I : Inverses p) (above : 3 < p) where
  pos : 0 < p
  pos = omega arith

  all_words_lem : (x : ℕ) → x < p → (D : List ℕ) → Words p (all_as x D)
  all_words_lem x h D = words_map pos (λ (d : ℕ). x) (λ d. h) D

  one_at-words : (n : ℕ) (D : List ℕ) → Words p (one_at n D)
  one_at-words n [] = words_none pos
  one_at-words zero (zero ∷ D) = words_more pos (omega arith) (all_words_lem 0 pos D)
  one_at-words (suc n) (zero ∷ D) = words_more pos pos (one_at-words n D)
  one_at-words zero (suc d ∷ D) = words_more pos pos (one_at-words zero D)
  one_at-words (suc n) (suc d ∷ D) = words_more pos pos (one_at-words (suc n) D)

  several_zeros_lem : (t : ℕ) (D : List ℕ) → State p t D → 1 < zeros D → Merges p t (internal p D)
  unfolding internal
  several_zeros_lem t D S h = record {
    one = one_at 0 D;
    other = one_at 1 D;
    one_state = record { width = one_at-length 0 D ∙ S.width; words = one_at-words 0 D };
    other_state = record { width = one_at-length 1 D ∙ S.width; words = one_at-words 1 D };
    different = one_at-different D h;
    same_image =
        one_at_image p (sum (one_at 0 D)) 0 D ∙ ap (λ (s : ℕ). all_as (s % p) D) (one_at-sum 0 D (omega arith) ∙ sym (one_at-sum 1 D h))
        ∙ sym (one_at_image p (sum (one_at 1 D)) 1 D);
  }

  -- with the sum -1, M_I takes the inverses to 0
  units_image : (s : ℕ) → (1 + s) % p ≡ 0 → {D es : List ℕ} → Units p D es → plus_multiples p s D es ≡ all_as 0 D
  unfolding plus_multiples
  units_image s h no_unit = refl
  units_image s h (and_unit {d} {e} {D} {es} u us) =
      let same : (s + d * e) % p ≡ (s + 1) % p = (add≈ (refl≈ {a = s}) u).same in
      let turned : s + 1 ≡ 1 + s = omega arith in
      cons_eq (same ∙ ap (λ (n : ℕ). n % p) turned ∙ h) (units_image s h us)

  sum-zero : (t : ℕ) (D : List ℕ) → State p t D → zeros D ≡ 0 → (1 + sum (inverses p D)) % p ≡ 0 → Merges p t (internal p D)
  unfolding internal inverses
  sum-zero t D S z h = record {
    one = inverses p D;
    other = all_as 0 D;
    one_state = record { width = length-map D (inverse p) ∙ S.width; words = words_map pos (inverse p) I.word D };
    other_state = record { width = length-map D (λ (d : ℕ). 0) ∙ S.width; words = all_words_lem 0 pos D };
    different = λ e.
        let none : sum (inverses p D) ≡ 0 = ap sum e ∙ sum_zeros D in
        let one : (1 + sum (inverses p D)) % p ≡ 1 = ap (λ (n : ℕ). (1 + n) % p) none ∙ mod-eq_of_lt (omega arith) in
        absurd (omega arith);
    same_image =
        units_image (sum (inverses p D)) h (inverses_units I above D S.words (λ i b. nonzero_at D i z b))
        ∙ ap (λ (x : ℕ). all_as x D) (sym (ap (λ (s : ℕ). s % p) (sum_zeros D) ∙ zero-mod p))
        ∙ sym (zeros_image p (sum (all_as 0 D)) D);
  }

  pub singular : Singular p
  singular = record { several_zeros = several_zeros_lem; sum_zero = sum-zero }
