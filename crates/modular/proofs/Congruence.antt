-- Congruence modulo p is an equivalence that sums, products and powers keep.
use mathlib.Core.Path.{◌≡◌, refl, sym, ap, ap₂, ◌∙◌}
use Prim.Native.Nat.{ℕ, zero, suc, ◌+◌, ◌*◌, ◌-◌, ◌/◌, ◌%◌, ◌^◌, ◌<◌}
use native.Mathlib.Nat.{add-mod, add-zero, add-mul-mod_self_left, mod-mod, mod-add-div, mod-eq_of_lt, mul-add-mod_self_left, mul_assoc, mul_comm, mul-one, add-mul, pow-zero, pow-suc}
use native.Mathlib.Omega.{arith}
use Rattle.modular.specs.Congruence.{◌≈⟨◌⟩◌}

-- a factor may be taken by its remainder
mul-mod : (p a b : ℕ) → a % p * b % p ≡ a * b % p
mul-mod p a b =
    sym (add-mul-mod_self_left (a % p * b) p (a / p * b))
    ∙ ap (λ (x : ℕ). x % p) (ap (λ (x : ℕ). a % p * b + x) (sym (mul_assoc p (a / p) b)) ∙ sym (add-mul (a % p) (p * (a / p)) b) ∙ ap (λ (x : ℕ). x * b) (mod-add-div a p))

module _ {p : ℕ} where
  pub refl≈ : {a : ℕ} → a ≈⟨ p ⟩ a
  refl≈ = record { same = refl }

  pub eq≈ : {a b : ℕ} → a ≡ b → a ≈⟨ p ⟩ b
  eq≈ e = record { same = ap (λ (x : ℕ). x % p) e }

  pub sym≈ : {a b : ℕ} → a ≈⟨ p ⟩ b → b ≈⟨ p ⟩ a
  sym≈ h = record { same = sym h.same }

  pub trans≈ : {a b c : ℕ} → a ≈⟨ p ⟩ b → b ≈⟨ p ⟩ c → a ≈⟨ p ⟩ c
  trans≈ h k = record { same = h.same ∙ k.same }

  pub mod≈ : (a : ℕ) → a % p ≈⟨ p ⟩ a
  mod≈ a = record { same = mod-mod a p }

  pub add≈ : {a b c d : ℕ} → a ≈⟨ p ⟩ b → c ≈⟨ p ⟩ d → a + c ≈⟨ p ⟩ b + d
  add≈ {a} {b} {c} {d} h k = record { same = add-mod a c p ∙ ap₂ (λ (x y : ℕ). (x + y) % p) h.same k.same ∙ sym (add-mod b d p) }

  mul-left≈ : {a b : ℕ} (c : ℕ) → a ≈⟨ p ⟩ b → a * c ≈⟨ p ⟩ b * c
  mul-left≈ {a} {b} c h = record { same = sym (mul-mod p a c) ∙ ap (λ (x : ℕ). x * c % p) h.same ∙ mul-mod p b c }

  pub mul≈ : {a b c d : ℕ} → a ≈⟨ p ⟩ b → c ≈⟨ p ⟩ d → a * c ≈⟨ p ⟩ b * d
  mul≈ {a} {b} {c} {d} h k = trans≈ (mul-left≈ c h) (trans≈ (eq≈ (mul_comm b c)) (trans≈ (mul-left≈ b k) (eq≈ (mul_comm d b))))

  pub pow≈ : {a b : ℕ} → a ≈⟨ p ⟩ b → (e : ℕ) → a ^ e ≈⟨ p ⟩ b ^ e
  pow≈ {a} {b} h zero = eq≈ (pow-zero a ∙ sym (pow-zero b))
  pow≈ {a} {b} h (suc e) = trans≈ (eq≈ (pow-suc a e)) (trans≈ (mul≈ (pow≈ h e) h) (eq≈ (sym (pow-suc b e))))

  -- words that are congruent are equal
  pub word≈ : {a b : ℕ} → a < p → b < p → a ≈⟨ p ⟩ b → a ≡ b
  word≈ ha hb h = sym (mod-eq_of_lt ha) ∙ h.same ∙ mod-eq_of_lt hb

  -- what is congruent to a word leaves it as the remainder
  pub rest≈ : {a b : ℕ} → b < p → a ≈⟨ p ⟩ b → a % p ≡ b
  rest≈ hb h = h.same ∙ mod-eq_of_lt hb

  -- multiples of p are nothing
  pub multiple≈ : (a q : ℕ) → a + p * q ≈⟨ p ⟩ a
  multiple≈ a q = record { same = add-mul-mod_self_left a p q }

  pub whole≈ : (q : ℕ) → p * q ≈⟨ p ⟩ 0
  whole≈ q = record { same = ap (λ (x : ℕ). x % p) (sym (add-zero (p * q))) ∙ mul-add-mod_self_left p q 0 }

  -- a summand may go from both sides
  pub cancel≈ : (a b d : ℕ) → 0 < p → a + d ≈⟨ p ⟩ b + d → a ≈⟨ p ⟩ b
  cancel≈ a b d pos h = trans≈ (sym≈ (away a)) (trans≈ (add≈ h (refl≈ {a = (p - 1) * d})) (away b))
    where
      times : d + (p - 1) * d ≡ p * d
      times =
          let e : suc (p - 1) ≡ p = omega arith in
          sym (ap (λ (x : ℕ). x * d) (sym e) ∙ native.Mathlib.Nat.suc-mul (p - 1) d ∙ native.Mathlib.Nat.add_comm ((p - 1) * d) d)

      away : (x : ℕ) → x + d + (p - 1) * d ≈⟨ p ⟩ x
      away x =
          trans≈ (eq≈ (native.Mathlib.Nat.add_assoc x d ((p - 1) * d) ∙ ap (λ (y : ℕ). x + y) times)) (multiple≈ x d)

  -- what is wanting to p stands for the negative: with a it is nothing
  pub wanting≈ : (a : ℕ) → 0 < p → a + (p - a % p) ≈⟨ p ⟩ 0
  wanting≈ a pos =
      let e : a % p + (p - a % p) ≡ p * 1 = omega (arith, native.Mathlib.Nat.mod-lt a pos, mul-one p) in
      trans≈ (add≈ (sym≈ (mod≈ a)) (refl≈ {a = p - a % p})) (trans≈ (eq≈ e) (whole≈ 1))

  -- p - 1 times as much is the negative too
  pub minus≈ : (a : ℕ) → 0 < p → p - a % p ≈⟨ p ⟩ (p - 1) * a
  minus≈ a pos =
      let e : suc (p - 1) ≡ p = omega arith in
      let t : (p - 1) * a + a ≡ p * a = sym (native.Mathlib.Nat.suc-mul (p - 1) a) ∙ ap (λ (x : ℕ). x * a) e in
      let w : a + (p - a % p) ≈⟨ p ⟩ (p - 1) * a + a = trans≈ (wanting≈ a pos) (sym≈ (trans≈ (eq≈ t) (whole≈ a))) in
      cancel≈ (p - a % p) ((p - 1) * a) a pos (trans≈ (eq≈ (native.Mathlib.Nat.add_comm (p - a % p) a)) w)
