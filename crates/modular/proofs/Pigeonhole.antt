-- The pigeonhole principle: n different numbers below n are all the numbers below n.
use mathlib.Core.Path.{◌≡◌, refl, sym, ◌∙◌, subst}
use mathlib.Core.Logic.{◌≢◌}
use Prim.Native.Nat.{ℕ, zero, suc, ◌<◌}
use native.Mathlib.Decide.{ℕ_discrete}
use native.Mathlib.Omega.{arith}

-- the first n values of f are below n and differ
pub record Injects (n : ℕ) (f : ℕ → ℕ) : Type 0 where
  pub stays : (i : ℕ) → i < n → f i < n
  pub differs : (i j : ℕ) → i < j → j < n → f i ≢ f j

-- y is one of the first n values of f
pub record Reached (n : ℕ) (f : ℕ → ℕ) (y : ℕ) : Type 0 where
  pub at : ℕ
  pub below : at < n
  pub value : f at ≡ y

-- x, but z where x is n
swap : (x n z : ℕ) → Dec (x ≡ n) → ℕ
swap x n z (yes e) = z
swap x n z (no e) = x

swap_at : (x n z : ℕ) (d : Dec (x ≡ n)) → x ≡ n → swap x n z d ≡ z
unfolding swap
swap_at x n z (yes e) h = refl
swap_at x n z (no e) h = absurd (e h)

swap_off : (x n z : ℕ) (d : Dec (x ≡ n)) → x ≢ n → swap x n z d ≡ x
unfolding swap
swap_off x n z (yes e) h = absurd (h e)
swap_off x n z (no e) h = refl

module _ (n : ℕ) (f : ℕ → ℕ) (F : Injects (suc n) f) where
  -- f with its last value put where it has the value n: n different numbers below n
  shrunk : ℕ → ℕ
  shrunk i = swap (f i) n (f n) (ℕ_discrete (f i) n)

  shrunk_at : (i : ℕ) → f i ≡ n → shrunk i ≡ f n
  unfolding shrunk
  shrunk_at i h = swap_at (f i) n (f n) (ℕ_discrete (f i) n) h

  shrunk_off : (i : ℕ) → f i ≢ n → shrunk i ≡ f i
  unfolding shrunk
  shrunk_off i h = swap_off (f i) n (f n) (ℕ_discrete (f i) n) h

  shrunk_injects : Injects n shrunk
  shrunk_injects = record {
    stays = λ i h. stay i h (ℕ_discrete (f i) n);
    differs = λ i j h k. differ i j h k (ℕ_discrete (f i) n) (ℕ_discrete (f j) n);
  }
    where
      stay : (i : ℕ) → i < n → Dec (f i ≡ n) → shrunk i < n
      stay i h (yes e) = omega (arith, shrunk_at i e, F.differs i n h (omega arith), F.stays n (omega arith))
      stay i h (no e) = omega (arith, shrunk_off i e, F.stays i (omega arith))

      differ : (i j : ℕ) → i < j → j < n → Dec (f i ≡ n) → Dec (f j ≡ n) → shrunk i ≢ shrunk j
      differ i j h k (yes d) (yes e) = absurd (F.differs i j h (omega arith) (d ∙ sym e))
      differ i j h k (yes d) (no e) = omega (arith, shrunk_at i d, shrunk_off j e, F.differs j n k (omega arith))
      differ i j h k (no d) (yes e) = omega (arith, shrunk_off i d, shrunk_at j e, F.differs i n (omega arith) (omega arith))
      differ i j h k (no d) (no e) = omega (arith, shrunk_off i d, shrunk_off j e, F.differs i j h (omega arith))

  -- where the shrunk values are all the numbers below n, the values are all those below n + 1
  grow : ((z : ℕ) → z < n → Reached n shrunk z) → (y : ℕ) → y < suc n → Reached (suc n) f y
  grow all y h = cases (ℕ_discrete y (f n)) (ℕ_discrete y n)
    where
      last : f n ≢ n → Reached n shrunk (f n) → Reached (suc n) f n
      last o r = at (ℕ_discrete (f r.at) n)
        where
          at : Dec (f r.at ≡ n) → Reached (suc n) f n
          at (yes e) = record { at = r.at; below = omega (arith, r.below); value = e }
          at (no e) = absurd (F.differs r.at n r.below (omega arith) (sym (shrunk_off r.at e) ∙ r.value))

      inside : y ≢ f n → Reached n shrunk y → Reached (suc n) f y
      inside o r = at (ℕ_discrete (f r.at) n)
        where
          at : Dec (f r.at ≡ n) → Reached (suc n) f y
          at (yes e) = absurd (o (sym r.value ∙ shrunk_at r.at e))
          at (no e) = record { at = r.at; below = omega (arith, r.below); value = sym (shrunk_off r.at e) ∙ r.value }

      cases : Dec (y ≡ f n) → Dec (y ≡ n) → Reached (suc n) f y
      cases (yes e) d = record { at = n; below = omega arith; value = sym e }
      cases (no e) (yes d) =
          let o : f n ≢ n = omega arith in
          let b : f n < n = omega (arith, F.stays n (omega arith)) in
          subst (Reached (suc n) f) (sym d) (last o (all (f n) b))
      cases (no e) (no d) = inside e (all y (omega arith))

pub all_reached : (n : ℕ) (f : ℕ → ℕ) → Injects n f → (y : ℕ) → y < n → Reached n f y
all_reached zero f F y h = absurd (omega arith)
all_reached (suc n) f F y h = grow n f F (λ z b. all_reached n (shrunk n f F) (shrunk_injects n f F) z b) y h
