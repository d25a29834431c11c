-- The laws of every prime of the record: inverses, no zero divisors, seventh roots.
use mathlib.Core.Path.{◌≡◌, refl, sym, ap, ◌∙◌}
use mathlib.Core.Logic.{◌⊎◌, inl, inr}
use mathlib.Core.Bool.{Bool, true, false, cond, false≢true}
use Prim.Native.Nat.{ℕ, zero, suc, ◌+◌, ◌*◌, ◌-◌, ◌%◌, ◌^◌, ◌≤◌, ◌<◌}
use native.Mathlib.Nat.{mul-zero, zero-mul, mul_comm, mul_assoc, one-mul, mod-lt, mod-eq_of_lt, zero-mod, pow-suc, pow-succ'}
use native.Mathlib.Decide.{ℕ_discrete, dec_lt}
use native.Mathlib.Omega.{arith}
use lib.Dec.{eqb}
use borrow.Author.Tests.{eq-eqb, ne_eqb, eqb-true}
use Rattle.modular.specs.Arithmetic.{mul, pow, seek, inverse, seventh_root}
use Rattle.modular.specs.Congruence.{◌≈⟨◌⟩◌}
use Rattle.modular.specs.PrimeField.{Fermat, PrimeField, Inverses, NoZeroDivisors, SeventhRoots, PrimeLaws}
use Rattle.modular.proofs.Congruence.{refl≈, eq≈, sym≈, trans≈, mod≈, mul≈, pow≈, word≈, rest≈}
use Rattle.modular.proofs.Powers.{pow-mul, one_pow}

-- Of a range, the only number that a test accepts is the one that is sought.
pub seek_only : (test : ℕ → Bool) (i n y : ℕ) → i ≤ y → y < i + n → test y ≡ true → ((z : ℕ) → z < i + n → test z ≡ true → z ≡ y) → seek test i n ≡ y
unfolding seek
seek_only test i zero y a b h only = absurd (omega arith)
seek_only test i (suc n) y a b h only =
    at (test i) refl (λ l. seek_only test (suc i) n y l (omega arith) h (λ z c t. only z (omega arith) t))
  where
    apart : test i ≡ false → Dec (i ≡ y) → i < y
    apart e (no o) = omega arith
    apart e (yes s) = absurd (false≢true (sym e ∙ ap test s ∙ h))

    at : (t : Bool) → test i ≡ t → (suc i ≤ y → seek test (suc i) n ≡ y) → cond t i (seek test (suc i) n) ≡ y
    at true e ih = only i (omega arith) e
    at false e ih = ih (apart e (ℕ_discrete i y))

pub seek_none : (test : ℕ → Bool) → ((z : ℕ) → test z ≡ false) → (i n : ℕ) → seek test i n ≡ 0
unfolding seek
seek_none test never i zero = refl
seek_none test never i (suc n) = rw (never i) (seek_none test never (suc i) n)

pub seek_below : (test : ℕ → Bool) (i n : ℕ) → 0 < i + n → seek test i n < i + n
unfolding seek
seek_below test i zero h = h
seek_below test i (suc n) h = at (test i) (seek_below test (suc i) n (omega arith))
  where
    at : (t : Bool) → seek test (suc i) n < suc i + n → cond t i (seek test (suc i) n) < i + suc n
    at true l = omega arith
    at false l = omega arith

module _ (p : ℕ) (F : Fermat p) where
  positive : 0 < p
  positive = omega (arith, F.above)

  pow_below : (x e : ℕ) → pow p x e < p
  unfolding pow
  pow_below x e = mod-lt (x ^ e) positive

  -- x times x to the power p - 2 is 1
  by_power : (x : ℕ) → 0 < x → x < p → x * x ^ (p - 2) ≈⟨ p ⟩ 1
  unfolding pow
  by_power x a b =
      let e : suc (p - 2) ≡ p - 1 = omega (arith, F.above) in
      record { same = ap (λ (y : ℕ). y % p) (sym (pow-succ' x (p - 2)) ∙ ap (λ (y : ℕ). x ^ y) e) ∙ F.power x a b ∙ sym (mod-eq_of_lt (omega (arith, F.above))) }

  -- a factor that is not 0 may go from both sides
  pub cancel : (x y z : ℕ) → 0 < x → x < p → y < p → z < p → x * y ≈⟨ p ⟩ x * z → y ≡ z
  cancel x y z a b c d h = word≈ c d (trans≈ (sym≈ (back y)) (trans≈ (mul≈ (refl≈ {a = x ^ (p - 2)}) h) (back z)))
    where
      back : (w : ℕ) → x ^ (p - 2) * (x * w) ≈⟨ p ⟩ w
      back w =
          trans≈ (eq≈ (sym (mul_assoc (x ^ (p - 2)) x w) ∙ ap (λ (y : ℕ). y * w) (mul_comm (x ^ (p - 2)) x)))
          (trans≈ (mul≈ (by_power x a b) (refl≈ {a = w})) (eq≈ (one-mul w)))

  power_product : (x : ℕ) → 0 < x → x < p → mul p x (pow p x (p - 2)) ≡ 1
  unfolding mul pow
  power_product x a b = rest≈ (omega (arith, F.above)) (trans≈ (mul≈ (refl≈ {a = x}) (mod≈ (x ^ (p - 2)))) (by_power x a b))

  one_only : (x y z : ℕ) → 0 < x → x < p → y < p → z < p → mul p x y ≡ 1 → mul p x z ≡ 1 → y ≡ z
  unfolding mul
  one_only x y z a b c d e f = cancel x y z a b c d (record { same = e ∙ sym f })

  inverse_power : (x : ℕ) → 0 < x → x < p → inverse p x ≡ pow p x (p - 2)
  unfolding inverse
  inverse_power x a b =
      seek_only (λ y. eqb (mul p x y) 1) 0 p (pow p x (p - 2)) (omega arith) (omega (arith, pow_below x (p - 2)))
      (eq-eqb (mul p x (pow p x (p - 2))) 1 (power_product x a b))
      (λ z l t. one_only x z (pow p x (p - 2)) a b (omega arith) (pow_below x (p - 2)) (eqb-true (mul p x z) 1 t) (power_product x a b))

  pub inverses : Inverses p
  unfolding inverse mul
  inverses = record {
    word = λ x. omega (arith, seek_below (λ y. eqb (mul p x y) 1) 0 p (omega (arith, positive)));
    product = λ x a b. ap (mul p x) (inverse_power x a b) ∙ power_product x a b;
    only = λ x y a b c e. one_only x y (pow p x (p - 2)) a b c (pow_below x (p - 2)) e (power_product x a b) ∙ sym (inverse_power x a b);
    power = inverse_power;
    none = seek_none (λ y. eqb (mul p 0 y) 1) (λ z. ne_eqb (0 * z % p) 1 (zero_product z)) 0 p;
  }
    where
      zero_product : (z : ℕ) → 0 * z % p ≡ 1 → ⊥
      zero_product z e = let o : ◌≡◌ {A = ℕ} 0 1 = sym (ap (λ (y : ℕ). y % p) (zero-mul z) ∙ zero-mod p) ∙ e in omega arith

  pub no_zero_divisors_lem : NoZeroDivisors p
  unfolding mul
  no_zero_divisors_lem x y a b e = split (dec_lt 0 x)
    where
      split : Dec (0 < x) → (x ≡ 0) ⊎ (y ≡ 0)
      split (no h) = inl (omega arith)
      split (yes h) = inr (cancel x y 0 h a b positive (record { same = e ∙ sym (ap (λ (z : ℕ). z % p) (mul-zero x) ∙ zero-mod p) }))

  -- exponents whose product is 1 above a multiple of p - 1 undo one another
  pub exponents_undo : (e d turns x : ℕ) → e * d ≡ suc ((p - 1) * turns) → x < p → pow p (pow p x e) d ≡ x
  unfolding pow
  exponents_undo e d turns x h b =
      rest≈ b (trans≈ (pow≈ (mod≈ (x ^ e)) d) (trans≈ (eq≈ (sym (pow-mul x e d) ∙ ap (λ (y : ℕ). x ^ y) h ∙ pow-suc x ((p - 1) * turns))) (split (dec_lt 0 x))))
    where
      split : Dec (0 < x) → x ^ ((p - 1) * turns) * x ≈⟨ p ⟩ x
      split (yes a) =
          let one : x ^ (p - 1) ≈⟨ p ⟩ 1 = record { same = F.power x a b ∙ sym (mod-eq_of_lt (omega (arith, F.above))) } in
          trans≈ (mul≈ (trans≈ (eq≈ (pow-mul x (p - 1) turns)) (trans≈ (pow≈ one turns) (eq≈ (one_pow turns)))) (refl≈ {a = x})) (eq≈ (one-mul x))
      split (no a) =
          let z : x ≡ 0 = omega arith in
          eq≈ (ap (λ (y : ℕ). x ^ ((p - 1) * turns) * y) z ∙ mul-zero (x ^ ((p - 1) * turns)) ∙ sym z)

module _ (p : ℕ) (F : PrimeField p) where
  power_of : (y : ℕ) → y < p → pow p (pow p y F.root_exponent) 7 ≡ y
  power_of y h = exponents_undo p F.fermat F.root_exponent 7 F.turns y (mul_comm F.root_exponent 7 ∙ F.undoes) h

  root_of_lem : (x : ℕ) → x < p → pow p (pow p x 7) F.root_exponent ≡ x
  root_of_lem x h = exponents_undo p F.fermat 7 F.root_exponent F.turns x F.undoes h

  root_power : (y : ℕ) → y < p → seventh_root p y ≡ pow p y F.root_exponent
  unfolding seventh_root
  root_power y h =
      seek_only (λ x. eqb (pow p x 7) y) 0 p (pow p y F.root_exponent) (omega arith) (omega (arith, pow_below p F.fermat y F.root_exponent))
      (eq-eqb (pow p (pow p y F.root_exponent) 7) y (power_of y h))
      (λ z l t. sym (root_of_lem z (omega arith)) ∙ ap (λ (x : ℕ). pow p x F.root_exponent) (eqb-true (pow p z 7) y t))

  seventh_roots_lem : SeventhRoots p F
  unfolding seventh_root
  seventh_roots_lem = record {
    word = λ y. omega (arith, seek_below (λ x. eqb (pow p x 7) y) 0 p (omega (arith, F.fermat.above)));
    root_of_power = λ x h. root_power (pow p x 7) (pow_below p F.fermat x 7) ∙ root_of_lem x h;
    power_of_root = λ y h. ap (λ (x : ℕ). pow p x 7) (root_power y h) ∙ power_of y h;
    power = root_power;
  }

  pub prime_laws : PrimeLaws p F
  prime_laws = record {
    inverses = inverses p F.fermat;
    no_zero_divisors = no_zero_divisors_lem p F.fermat;
    seventh_roots = seventh_roots_lem;
  }
