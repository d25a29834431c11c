-- A set of numbers that holds 0, sums and differences is the multiples of one number, its least above 0.
use mathlib.Core.Path.{◌≡◌, subst}
use mathlib.Core.Logic.{◌⊎◌, inl, inr}
use Prim.Native.Nat.{ℕ, zero, suc, ◌+◌, ◌*◌, ◌/◌, ◌%◌, ◌<◌}
use native.Mathlib.Nat.{mul-zero, mul-suc, mod-lt, div-add-mod}
use native.Mathlib.Decide.{ℕ_discrete, dec_lt}
use native.Mathlib.Omega.{arith}

-- the least number with a property
pub record Least (P : ℕ → Type 0) : Type 0 where
  pub at : ℕ
  pub holds : P at
  pub below : (k : ℕ) → k < at → ¬ P k

-- no number below `b` has the property, or one is the least
search_below : (P : ℕ → Type 0) → ((k : ℕ) → Dec (P k)) → (b : ℕ) → ((k : ℕ) → k < b → ¬ P k) ⊎ Least P
search_below P d zero = inl (λ k h. absurd (omega arith))
search_below P d (suc b) = extend (search_below P d b) (d b)
  where
    extend : ((k : ℕ) → k < b → ¬ P k) ⊎ Least P → Dec (P b) → ((k : ℕ) → k < suc b → ¬ P k) ⊎ Least P
    extend (inr l) e = inr l
    extend (inl f) (yes h) = inr (record { at = b; holds = h; below = f })
    extend (inl f) (no n) = inl (λ k h pk. at_end k h pk (ℕ_discrete k b))
      where
        at_end : (k : ℕ) → k < suc b → P k → Dec (k ≡ b) → ⊥
        at_end k h pk (yes e) = n (subst P e pk)
        at_end k h pk (no ne) = f k (omega arith) pk

pub least : (P : ℕ → Type 0) → ((k : ℕ) → Dec (P k)) → (n : ℕ) → P n → Least P
least P d n h = found (search_below P d (suc n))
  where
    found : ((k : ℕ) → k < suc n → ¬ P k) ⊎ Least P → Least P
    found (inr l) = l
    found (inl f) = absurd (f n (omega arith) h)

pub record Closed (P : ℕ → Type 0) : Type 0 where
  pub decide : (k : ℕ) → Dec (P k)
  pub zero_in : P 0
  pub sum : (a b : ℕ) → P a → P b → P (a + b)
  pub rest : (a b : ℕ) → P a → P (a + b) → P b

pub record Generator (P : ℕ → Type 0) : Type 0 where
  pub at : ℕ
  pub positive : 0 < at
  pub holds : P at
  pub divides : (k : ℕ) → P k → k % at ≡ 0
  pub below : (k : ℕ) → 0 < k → k < at → ¬ P k

pub multiple : (P : ℕ → Type 0) → Closed P → (a : ℕ) → P a → (k : ℕ) → P (a * k)
multiple P C a h zero = rw mul-zero C.zero_in
multiple P C a h (suc k) = rw mul-suc (C.sum (a * k) a (multiple P C a h k) h)

both? : {A B : Type 0} → Dec A → Dec B → Dec (A × B)
both? (yes a) (yes b) = yes (a, b)
both? (yes a) (no n) = no (λ h. n h.1)
both? (no n) d = no (λ h. n h.0)

pub generator : (P : ℕ → Type 0) → Closed P → (n : ℕ) → 0 < n → P n → Generator P
generator P C n positive holds = of (least (λ k. (0 < k) × P k) (λ k. both? (dec_lt 0 k) (C.decide k)) n (positive, holds))
  where
    of : Least (λ k. (0 < k) × P k) → Generator P
    of l = record {
      at = l.at;
      positive = l.holds.0;
      holds = l.holds.1;
      divides = λ k h. no_rest k h (ℕ_discrete (k % l.at) 0);
      below = λ k pos lt h. l.below k lt (pos, h);
    }
      where
        -- a remainder by the least one is in the set too, so it is 0
        rest_in : (k : ℕ) → P k → P (k % l.at)
        rest_in k h = C.rest (l.at * (k / l.at)) (k % l.at) (multiple P C l.at l.holds.1 (k / l.at)) (rw div-add-mod h)

        no_rest : (k : ℕ) → P k → Dec (k % l.at ≡ 0) → k % l.at ≡ 0
        no_rest k h (yes e) = e
        no_rest k h (no ne) = absurd (l.below (k % l.at) (mod-lt k l.holds.0) (omega arith, rest_in k h))
