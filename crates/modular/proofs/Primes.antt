-- Prime numbers: Euclid's lemma, prime factors, and that the test by trial finds primes.
use mathlib.Core.Path.{◌≡◌, sym, ap, ◌∙◌, subst}
use mathlib.Core.Logic.{◌≢◌}
use mathlib.Core.Bool.{Bool, true, false, ◌&&◌, not}
use Prim.Native.Nat.{ℕ, zero, suc, ◌+◌, ◌*◌, ◌/◌, ◌%◌, ◌^◌, ◌≤◌, ◌<◌}
use native.Mathlib.Nat.{add-zero, zero-add, zero-mul, mul-add, mul-zero, mul-one, add-mod, mod-add-mod, mod-eq_of_lt, mod_self, mul-mod_left, mul-le-mul, zero-mod, div-add-mod, pow-zero, pow-suc}
use native.Mathlib.Decide.{ℕ_discrete, dec_lt}
use native.Mathlib.Omega.{arith}
use lib.Dec.{T, ltb, eqb, ltb→lt, T_not}
use borrow.Author.Tests.{lt-ltb, eq-eqb}
use Rattle.modular.specs.Certificate.{proper_divisor, no_divisor, small_prime}
use Rattle.modular.specs.Congruence.{◌≈⟨◌⟩◌}
use Rattle.modular.proofs.Congruence.{mul≈, refl≈}
use Rattle.modular.proofs.Generator.{Least, least, Closed, Generator, generator}

pub record Prime (q : ℕ) : Type 0 where
  pub above : 1 < q
  pub undivided : (d : ℕ) → 1 < d → d < q → q % d ≢ 0

-- Multiples of m, as numbers that leave no remainder.
module _ (m : ℕ) where
  pub multiple_sum : (a b : ℕ) → a % m ≡ 0 → b % m ≡ 0 → (a + b) % m ≡ 0
  multiple_sum a b h k = add-mod a b m ∙ rw (h, k) (zero-mod m)

  pub multiple_rest : (a b : ℕ) → a % m ≡ 0 → (a + b) % m ≡ 0 → b % m ≡ 0
  multiple_rest a b h k = ap (λ (x : ℕ). x % m) (sym (zero-add b)) ∙ ap (λ (x : ℕ). (x + b) % m) (sym h) ∙ mod-add-mod a m b ∙ k

  pub multiple_times : (a b : ℕ) → a % m ≡ 0 → a * b % m ≡ 0
  multiple_times a b h =
      let z : a ≈⟨ m ⟩ 0 = record { same = h ∙ sym (zero-mod m) } in
      (mul≈ z (refl≈ {a = b})).same ∙ ap (λ (x : ℕ). x % m) (zero-mul b) ∙ zero-mod m

-- what d divides is d times the quotient
pub quotient : (m d : ℕ) → m % d ≡ 0 → d * (m / d) ≡ m
quotient m d h = sym (add-zero (d * (m / d))) ∙ ap (λ (x : ℕ). d * (m / d) + x) (sym h) ∙ div-add-mod m d

pub divides_through : (m q d : ℕ) → m % q ≡ 0 → q % d ≡ 0 → m % d ≡ 0
divides_through m q d h k = ap (λ (x : ℕ). x % d) (sym (quotient m q h)) ∙ multiple_times d q (m / q) k

-- Euclid's lemma: a prime that divides a product and not its first factor divides the second. The k with q | a * k are the
-- multiples of one number, which divides q and is not 1.
module _ (q : ℕ) (Q : Prime q) (a : ℕ) (free : a % q ≢ 0) where
  abbrev Annuls : ℕ → Type 0
  Annuls k = a * k % q ≡ 0

  annuls : Closed Annuls
  annuls = record {
    decide = λ k. ℕ_discrete (a * k % q) 0;
    zero_in = rw mul-zero (zero-mod q);
    sum = λ x y h k. rw mul-add (multiple_sum q (a * x) (a * y) h k);
    rest = λ x y h k. multiple_rest q (a * x) (a * y) h (rw mul-add at k);
  }

  pub euclid : (b : ℕ) → a * b % q ≡ 0 → b % q ≡ 0
  euclid b h = by (generator Annuls annuls q (omega (arith, Q.above)) (mul-mod_left a q))
    where
      by : Generator Annuls → b % q ≡ 0
      by G = cases (dec_lt 1 G.at) (dec_lt G.at q) (dec_lt q G.at)
        where
          of_q : q % G.at ≡ 0
          of_q = G.divides q (mul-mod_left a q)

          not_one : G.at ≡ 1 → ⊥
          not_one e = free (ap (λ (x : ℕ). x % q) (sym (mul-one a)) ∙ subst Annuls e G.holds)

          cases : Dec (1 < G.at) → Dec (G.at < q) → Dec (q < G.at) → b % q ≡ 0
          cases (no l) s t = absurd (not_one (omega (arith, G.positive)))
          cases (yes l) (yes s) t = absurd (Q.undivided G.at l s of_q)
          cases (yes l) (no s) (yes t) =
              let z : q ≡ 0 = sym (mod-eq_of_lt t) ∙ of_q in
              absurd (omega (arith, Q.above))
          cases (yes l) (no s) (no t) =
              let e : G.at ≡ q = omega arith in
              subst (λ (x : ℕ). b % x ≡ 0) e (G.divides b h)

pub euclid_power : (q : ℕ) → Prime q → (a n : ℕ) → a ^ n % q ≡ 0 → a % q ≡ 0
euclid_power q Q a zero h = absurd (omega (arith, Q.above, sym (mod-eq_of_lt Q.above) ∙ rw pow-zero at h))
euclid_power q Q a (suc n) h = split (λ e. euclid_power q Q a n e) (ℕ_discrete (a ^ n % q) 0)
  where
    split : (a ^ n % q ≡ 0 → a % q ≡ 0) → Dec (a ^ n % q ≡ 0) → a % q ≡ 0
    split ih (yes e) = ih e
    split ih (no o) = euclid q Q (a ^ n) o a (rw pow-suc at h)

-- a prime that divides a prime is that prime
pub same_prime : (q f : ℕ) → Prime q → Prime f → f % q ≡ 0 → q ≡ f
same_prime q f Q F h = cases (dec_lt q f) (dec_lt f q)
  where
    cases : Dec (q < f) → Dec (f < q) → q ≡ f
    cases (yes l) d = absurd (F.undivided q Q.above l h)
    cases (no l) (yes m) = absurd (omega (arith, F.above, sym (mod-eq_of_lt m) ∙ h))
    cases (no l) (no m) = omega arith

-- a prime factor
pub record Factor (m : ℕ) : Type 0 where
  pub at : ℕ
  pub prime : Prime at
  pub divides : m % at ≡ 0

abbrev Divisor : ℕ → ℕ → Type 0
Divisor m d = (1 < d) × (m % d ≡ 0)

divisor? : (m d : ℕ) → Dec (1 < d) → Dec (m % d ≡ 0) → Dec (Divisor m d)
divisor? m d (yes a) (yes b) = yes (a, b)
divisor? m d (yes a) (no b) = no (λ h. b h.1)
divisor? m d (no a) e = no (λ h. a h.0)

-- each number above 1 has one: its least divisor above 1
pub factor : (m : ℕ) → 1 < m → Factor m
factor m h = of (least (Divisor m) (λ d. divisor? m d (dec_lt 1 d) (ℕ_discrete (m % d) 0)) m (h, mod_self m))
  where
    of : Least (Divisor m) → Factor m
    of l = record {
      at = l.at;
      prime = record {
        above = l.holds.0;
        undivided = λ d a b e. l.below d b (a, divides_through m l.at d l.holds.1 e);
      };
      divides = l.holds.1;
    }

-- Of a test of two parts both hold.
pub and_left : (a b : Bool) → T (a && b) → T a
and_left true b h = tt
and_left false b h = absurd h

pub and_right : (a b : Bool) → T (a && b) → T b
and_right true b h = h
and_right false b h = absurd h

no_divisor_lem : (q n : ℕ) → T (no_divisor q n) → (d : ℕ) → 1 < d → d < suc (suc n) → d < q → q % d ≢ 0
unfolding no_divisor proper_divisor
no_divisor_lem q zero t d a b c e = omega arith
no_divisor_lem q (suc n) t d a b c e =
    last (λ l. no_divisor_lem q n (and_right (not (proper_divisor q (suc (suc n)))) (no_divisor q n) t) d a l c e) (ℕ_discrete d (suc (suc n)))
  where
    last : (d < suc (suc n) → ⊥) → Dec (d ≡ suc (suc n)) → ⊥
    last ih (no o) = ih (omega arith)
    last ih (yes f) =
        let less : ltb (suc (suc n)) q ≡ true = lt-ltb (suc (suc n)) q (omega arith) in
        let none : eqb (q % suc (suc n)) 0 ≡ true = eq-eqb (q % suc (suc n)) 0 (ap (λ (x : ℕ). q % x) (sym f) ∙ e) in
        T_not (proper_divisor q (suc (suc n))) (and_left (not (proper_divisor q (suc (suc n)))) (no_divisor q n) t) (rw (less, none) tt)

pub small_prime_lem : (q : ℕ) → T (small_prime q) → Prime q
unfolding small_prime
small_prime_lem q t = record { above = above; undivided = λ d a c e. split d a c e (dec_lt d 257) }
  where
    above : 1 < q
    above = ltb→lt 1 q (search (and_left, and_right))

    small : q < 66049
    small = ltb→lt q 66049 (search (and_left, and_right))

    tried : (d : ℕ) → 1 < d → d < 257 → d < q → q % d ≢ 0
    tried = no_divisor_lem q 255 (search (and_left, and_right))

    -- of two factors one is below 257
    split : (d : ℕ) → 1 < d → d < q → q % d ≡ 0 → Dec (d < 257) → ⊥
    split d a c e (yes s) = tried d a s c e
    split d a c e (no s) = tried (q / d) more (cofactor (dec_lt (q / d) 257)) less of_q
      where
        whole : d * (q / d) ≡ q
        whole = quotient q d e

        of_q : q % (q / d) ≡ 0
        of_q = ap (λ (x : ℕ). x % (q / d)) (sym whole) ∙ mul-mod_left d (q / d)

        not_zero : q / d ≢ 0
        not_zero z = let y : q ≡ 0 = sym whole ∙ ap (λ (x : ℕ). d * x) z ∙ mul-zero d in omega arith

        not_one : q / d ≢ 1
        not_one z = let y : q ≡ d = sym whole ∙ ap (λ (x : ℕ). d * x) z ∙ mul-one d in omega arith

        more : 1 < q / d
        more = omega (arith, not_zero, not_one)

        cofactor : Dec (q / d < 257) → q / d < 257
        cofactor (yes y) = y
        cofactor (no y) =
            let l : 257 ≤ d = omega arith in
            let r : 257 ≤ q / d = omega arith in
            absurd (omega (arith, mul-le-mul l r, whole, small))

        less : q / d < q
        less = omega (arith, cofactor (dec_lt (q / d) 257))
