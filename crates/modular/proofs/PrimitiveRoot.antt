-- What a passed certificate shows: the order of g is p - 1, so its powers are all the numbers from 1 to p - 1, and Fermat's theorem holds.
use mathlib.Core.Path.{◌≡◌, sym, ap, ◌∙◌}
use mathlib.Core.Logic.{◌≢◌}
use mathlib.Core.Bool.{not}
use mathlib.Core.List.{List, [], ◌∷◌}
use Prim.Native.Nat.{ℕ, ◌+◌, ◌*◌, ◌-◌, ◌/◌, ◌%◌, ◌^◌, ◌<◌}
use native.Mathlib.Nat.{mul-zero, mul-one, one-mul, mul_comm, mul_left_comm, mul-mod_right, mul-div_cancel_left, mod-lt, mod-eq_of_lt, div-le_self, pow-zero}
use native.Mathlib.Decide.{ℕ_discrete, dec_lt}
use native.Mathlib.Omega.{arith}
use lib.Dec.{T, eqb, ltb→lt, eqb→eq, T_not}
use borrow.Author.Tests.{eq-eqb}
use Rattle.modular.specs.Arithmetic.{pow}
use Rattle.modular.specs.Congruence.{◌≈⟨◌⟩◌}
use Rattle.modular.specs.Certificate.{computed_power, small_prime, product, none_reaches, certifies}
use Rattle.modular.specs.PrimeField.{Certified}
use Rattle.modular.proofs.Congruence.{refl≈, eq≈, sym≈, trans≈, mod≈, mul≈, pow≈}
use Rattle.modular.proofs.Powers.{pow-add, pow-mul, computed_power_lem}
use Rattle.modular.proofs.Generator.{Closed, Generator, generator, multiple}
use Rattle.modular.proofs.Primes.{Prime, Factor, factor, euclid, euclid_power, same_prime, quotient, divides_through, multiple_times, and_left, and_right, small_prime_lem}
use Rattle.modular.proofs.Pigeonhole.{Injects, Reached, all_reached}

not_equal : (m n : ℕ) → T (not (eqb m n)) → m ≢ n
not_equal m n t e = T_not (eqb m n) t (rw (eq-eqb m n e) tt)

-- at each prime q of the factors' product, g to the power (p - 1) / q is not 1
misses : (p g : ℕ) → p < 2 ^ 64 → (fs : List ℕ) → T (none_reaches p g fs) → (q : ℕ) → Prime q → product fs % q ≡ 0 → pow p g ((p - 1) / q) ≢ 1
unfolding none_reaches product
misses p g fits [] t q Q h e = omega (arith, Q.above, sym (mod-eq_of_lt Q.above) ∙ h)
misses p g fits (f ∷ fs) t q Q h e = split (λ l. misses p g fits fs (search (and_left, and_right)) q Q l e) (ℕ_discrete (f % q) 0)
  where
    split : (product fs % q ≡ 0 → ⊥) → Dec (f % q ≡ 0) → ⊥
    split ih (no o) = ih (euclid q Q f o (product fs) h)
    split ih (yes d) =
        let prime : T (small_prime f) = search (and_left, and_right) in
        let missed : T (not (eqb (computed_power p g ((p - 1) / f)) 1)) = search (and_left, and_right) in
        let s : q ≡ f = same_prime q f Q (small_prime_lem f prime) d in
        let c : computed_power p g ((p - 1) / f) ≡ 1 = computed_power_lem p g ((p - 1) / f) (omega (arith, div-le_self (p - 1) f)) ∙ ap (λ (x : ℕ). pow p g ((p - 1) / x)) (sym s) ∙ e in
        not_equal (computed_power p g ((p - 1) / f)) 1 missed c

module _ (p g : ℕ) (above : 3 < p) where
  abbrev One : ℕ → Type 0
  One k = pow p g k ≡ 1

  -- where g ^ a is 1, a factor g ^ a may go
  drop-one : (a b : ℕ) → One a → g ^ (a + b) ≈⟨ p ⟩ g ^ b
  unfolding pow
  drop-one a b h =
      let one : g ^ a ≈⟨ p ⟩ 1 = record { same = h ∙ sym (mod-eq_of_lt (omega arith)) } in
      trans≈ (eq≈ (pow-add g a b)) (trans≈ (mul≈ one (refl≈ {a = g ^ b})) (eq≈ (one-mul (g ^ b))))

  ones : Closed One
  unfolding pow
  ones = record {
    decide = λ k. ℕ_discrete (g ^ k % p) 1;
    zero_in = rw pow-zero (mod-eq_of_lt (omega arith));
    sum = λ a b h k. (drop-one a b h).same ∙ k;
    rest = λ a b h k. sym (drop-one a b h).same ∙ k;
  }

module _ (p g : ℕ) (above : 3 < p) (whole : pow p g (p - 1) ≡ 1) (fs : List ℕ) (n : ℕ) (all : product fs ^ n % (p - 1) ≡ 0)
    (parts : (q : ℕ) → Prime q → product fs % q ≡ 0 → pow p g ((p - 1) / q) ≢ 1) where
  order : Generator (One p g above)
  order = generator (One p g above) (ones p g above) (p - 1) (omega arith) whole

  times : ℕ
  times = (p - 1) / order.at

  times_order : order.at * times ≡ p - 1
  unfolding times
  times_order = quotient (p - 1) order.at (order.divides (p - 1) whole)

  -- a prime factor q of (p - 1) / order would have g to the power (p - 1) / q be 1
  no_factor : Factor times → ⊥
  no_factor q = parts q.at q.prime in_product one
    where
      split : q.at * (order.at * (times / q.at)) ≡ p - 1
      split =
          mul_left_comm q.at order.at (times / q.at)
          ∙ ap (λ (x : ℕ). order.at * x) (quotient times q.at q.divides) ∙ times_order

      in_product : product fs % q.at ≡ 0
      in_product =
          euclid_power q.at q.prime (product fs) n
          (divides_through (product fs ^ n) (p - 1) q.at all (ap (λ (x : ℕ). x % q.at) (sym split) ∙ mul-mod_right q.at (order.at * (times / q.at))))

      positive : 0 < q.at
      positive = omega (arith, q.prime.above)

      part : (p - 1) / q.at ≡ order.at * (times / q.at)
      part = ap (λ (x : ℕ). x / q.at) (sym split) ∙ mul-div_cancel_left (order.at * (times / q.at)) positive

      one : pow p g ((p - 1) / q.at) ≡ 1
      one = rw part (multiple (One p g above) (ones p g above) order.at order.holds (times / q.at))

  order_is : order.at ≡ p - 1
  order_is = cases (dec_lt 1 times)
    where
      some : times ≢ 0
      some e = let z : p - 1 ≡ 0 = sym times_order ∙ ap (λ (x : ℕ). order.at * x) e ∙ mul-zero order.at in omega arith

      cases : Dec (1 < times) → order.at ≡ p - 1
      cases (yes h) = absurd (no_factor (factor times h))
      cases (no h) =
          let e : times ≡ 1 = omega (arith, some) in
          sym (mul-one order.at) ∙ ap (λ (x : ℕ). order.at * x) (sym e) ∙ times_order

  no_one : (k : ℕ) → 0 < k → k < p - 1 → pow p g k ≢ 1
  no_one k a b = order.below k a (rw order_is b)

  -- each power below p - 1 has one that it makes 1 with
  undone : (i : ℕ) → i < p - 1 → g ^ i * g ^ (p - 1 - i) % p ≡ 1
  unfolding pow
  undone i h = ap (λ (x : ℕ). x % p) (sym (pow-add g i (p - 1 - i)) ∙ ap (λ (x : ℕ). g ^ x) (omega arith)) ∙ whole

  non_zero : (i : ℕ) → i < p - 1 → g ^ i % p ≢ 0
  non_zero i h e = let z : ◌≡◌ {A = ℕ} 1 0 = sym (undone i h) ∙ multiple_times p (g ^ i) (g ^ (p - 1 - i)) e in omega arith

  distinct : (i j : ℕ) → i < j → j < p - 1 → g ^ i % p ≢ g ^ j % p
  unfolding pow
  distinct i j a b e = no_one (j - i) (omega arith) (omega arith) one
    where
      same : g ^ i ≈⟨ p ⟩ g ^ j
      same = record { same = e }

      at_j : g ^ j * g ^ (p - 1 - i) % p ≡ 1
      at_j = (mul≈ (sym≈ same) (refl≈ {a = g ^ (p - 1 - i)})).same ∙ undone i (omega arith)

      shift : p - 1 + (j - i) ≡ j + (p - 1 - i)
      shift = omega arith

      one : pow p g (j - i) ≡ 1
      one =
          sym (drop-one p g above (p - 1) (j - i) whole).same ∙ ap (λ (x : ℕ). g ^ x % p) shift
          ∙ ap (λ (x : ℕ). x % p) (pow-add g j (p - 1 - i)) ∙ at_j

  -- the powers less one, which are below p - 1
  shifted : ℕ → ℕ
  shifted i = g ^ i % p - 1

  injects : Injects (p - 1) shifted
  unfolding shifted
  injects = record {
    stays = λ i h. omega (arith, mod-lt (g ^ i) {m = p} (omega arith), non_zero i h);
    differs = λ i j a b. omega (arith, non_zero i (omega arith), non_zero j b, distinct i j a b);
  }

  -- every number from 1 to p - 1 is a power of g
  logarithm : (x : ℕ) → 0 < x → x < p → (i : ℕ) × (pow p g i ≡ x)
  unfolding shifted pow
  logarithm x a b = of (all_reached (p - 1) shifted injects (x - 1) (omega arith))
    where
      of : Reached (p - 1) shifted (x - 1) → (i : ℕ) × (pow p g i ≡ x)
      of r = (r.at, omega (arith, r.value, non_zero r.at r.below))

  fermat : (x : ℕ) → 0 < x → x < p → pow p x (p - 1) ≡ 1
  unfolding pow
  fermat x a b = of (logarithm x a b)
    where
      of : (i : ℕ) × (pow p g i ≡ x) → pow p x (p - 1) ≡ 1
      of (i, e) =
          ap (λ (y : ℕ). y ^ (p - 1) % p) (sym e) ∙ (pow≈ (mod≈ (g ^ i)) (p - 1)).same
          ∙ ap (λ (y : ℕ). y % p) (sym (pow-mul g i (p - 1)) ∙ ap (λ (y : ℕ). g ^ y) (mul_comm i (p - 1)))
          ∙ multiple (One p g above) (ones p g above) (p - 1) whole i

pub certified : Certified
unfolding certifies
certified p g fs t = record { above = above; power = fermat p g above whole fs 64 covers (misses p g fits fs (search (and_left, and_right))) }
  where
    above : 3 < p
    above = ltb→lt 3 p (search (and_left, and_right))

    fits : p < 2 ^ 64
    fits = ltb→lt p (2 ^ 64) (search (and_left, and_right))

    covers : product fs ^ 64 % (p - 1) ≡ 0
    covers = eqb→eq (product fs ^ 64 % (p - 1)) 0 (search (and_left, and_right))

    whole : pow p g (p - 1) ≡ 1
    whole = sym (computed_power_lem p g (p - 1) (omega (arith, fits))) ∙ eqb→eq (computed_power p g (p - 1)) 1 (search (and_left, and_right))
