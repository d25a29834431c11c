-- The zeros of a list: how many there are, and where the first is.
use mathlib.Core.Path.{◌≡◌, refl, sym, ap, ◌∙◌}
use mathlib.Core.Logic.{◌≢◌}
use mathlib.Core.List.{List, [], ◌∷◌, ◌++◌}
use Prim.Native.Nat.{ℕ, zero, suc, ◌+◌, ◌*◌, ◌%◌, ◌<◌, ◌≤◌}
use native.Mathlib.Nat.{add-zero, zero-add, mul-zero, zero-mod}
use native.Mathlib.Numerals.{add-one}
use native.Mathlib.Decide.{ℕ_discrete}
use native.Mathlib.Omega.{arith}
use lib.ListN.{length, get_or, take, drop, take-append-drop, drop_of_length-le}
use lib.Seq.{take-suc, drop-cons}
use borrow.Author.Tests.{eq-eqb, ne_eqb}
use Rattle.modular.specs.Arithmetic.{mul, inverse}
use Rattle.modular.specs.PrimeField.{Inverses}
use Rattle.poseidon2.specs.Inverse.{inverses, zeros, zero_place}
use Rattle.poseidon2.specs.Statements.{Words}
use Rattle.poseidon2.proofs.Words.{words_tail}

module _ (d : ℕ) (D : List ℕ) where
  pub zeros_here : d ≡ 0 → zeros (d ∷ D) ≡ suc (zeros D)
  unfolding zeros
  zeros_here e = rw (eq-eqb d 0 e) (omega arith)

  pub zeros_later : d ≢ 0 → zeros (d ∷ D) ≡ zeros D
  unfolding zeros
  zeros_later o = rw (ne_eqb d 0 o) refl

  pub place_here : d ≡ 0 → zero_place (d ∷ D) ≡ 0
  unfolding zero_place
  place_here e = rw (eq-eqb d 0 e) refl

  pub place_later : d ≢ 0 → zero_place (d ∷ D) ≡ suc (zero_place D)
  unfolding zero_place
  place_later o = rw (ne_eqb d 0 o) (omega arith)

-- a number above 0 is no 0
pub above_zero : (d : ℕ) → suc d ≢ 0
above_zero d e = absurd (omega arith)

pub zeros_append : (xs ys : List ℕ) → zeros (xs ++ ys) ≡ zeros xs + zeros ys
unfolding zeros
zeros_append [] ys = omega arith
zeros_append (zero ∷ xs) ys = omega (arith, zeros_here 0 (xs ++ ys) refl, zeros_here 0 xs refl, zeros_append xs ys)
zeros_append (suc x ∷ xs) ys =
    omega (arith, zeros_later (suc x) (xs ++ ys) (above_zero x), zeros_later (suc x) xs (above_zero x), zeros_append xs ys)

-- a part has no more of them
pub zeros_take : (i : ℕ) (D : List ℕ) → zeros (take i D) ≤ zeros D
zeros_take i D = omega (arith, sym (zeros_append (take i D) (drop i D)) ∙ ap zeros (take-append-drop i D))

-- where there is none, each number is above 0, and the place is beyond the last
pub nonzero_at : (D : List ℕ) (i : ℕ) → zeros D ≡ 0 → i < length D → 0 < get_or D i 0
nonzero_at [] i e h = absurd (omega arith)
nonzero_at (zero ∷ D) i e h = absurd (omega (arith, zeros_here 0 D refl))
nonzero_at (suc d ∷ D) zero e h = omega arith
nonzero_at (suc d ∷ D) (suc i) e h = nonzero_at D i (sym (zeros_later (suc d) D (above_zero d)) ∙ e) (omega arith)

pub place_none : (D : List ℕ) → zeros D ≡ 0 → zero_place D ≡ length D
unfolding zero_place
place_none [] e = refl
place_none (zero ∷ D) e = absurd (omega (arith, zeros_here 0 D refl))
place_none (suc d ∷ D) e =
    place_later (suc d) D (above_zero d) ∙ ap suc (place_none D (sym (zeros_later (suc d) D (above_zero d)) ∙ e))

-- where there is one, it is before the end
pub place_some : (D : List ℕ) → zeros D ≢ 0 → zero_place D < length D
unfolding zeros
place_some [] o = absurd (o refl)
place_some (zero ∷ D) o = omega (arith, place_here 0 D refl)
place_some (suc d ∷ D) o =
    omega (arith, place_later (suc d) D (above_zero d), place_some D (λ e. o (zeros_later (suc d) D (above_zero d) ∙ e)))

pub place_beyond : (D : List ℕ) → length D ≤ zero_place D → zeros D ≡ 0
place_beyond D h = of (ℕ_discrete (zeros D) 0)
  where
    of : Dec (zeros D ≡ 0) → zeros D ≡ 0
    of (yes e) = e
    of (no o) = absurd (omega (arith, place_some D o))

-- ---- a list from its front on, as a loop goes over it

-- the zeros of the first i + 1 numbers
zeros_next : (D : List ℕ) (i : ℕ) → i < length D → zeros (take (i + 1) D) ≡ zeros (take i D) + zeros (get_or D i 0 ∷ [])
zeros_next D i h = ap zeros (ap (λ (n : ℕ). take n D) (add-one i) ∙ take-suc D i 0 h) ∙ zeros_append (take i D) (get_or D i 0 ∷ [])

pub one_zero_more : (D : List ℕ) (i : ℕ) → i < length D → get_or D i 0 ≡ 0 → zeros (take (i + 1) D) ≡ zeros (take i D) + 1
unfolding zeros
one_zero_more D i h e = omega (arith, zeros_next D i h, zeros_here (get_or D i 0) [] e)

pub no_zero_more : (D : List ℕ) (i : ℕ) → i < length D → get_or D i 0 ≢ 0 → zeros (take (i + 1) D) ≡ zeros (take i D)
unfolding zeros
no_zero_more D i h o = omega (arith, zeros_next D i h, zeros_later (get_or D i 0) [] o)

-- none of the first i is 0: so the place is counted from there
abbrev pub PlaceFrom : List ℕ → ℕ → Type 0
PlaceFrom D i = (i ≤ length D) × (zero_place D ≡ i + zero_place (drop i D))

pub place_start : (D : List ℕ) → PlaceFrom D 0
place_start D = (omega arith, sym (zero-add (zero_place D)))

module _ (D : List ℕ) (i : ℕ) (P : PlaceFrom D i) where
  pub place_found : i < length D → get_or D i 0 ≡ 0 → zero_place D ≡ i
  place_found h e =
      P.1 ∙ ap (λ (n : ℕ). i + n) (ap zero_place (drop-cons D i 0 h) ∙ place_here (get_or D i 0) (drop (suc i) D) e) ∙ add-zero i

  pub place_next : i < length D → get_or D i 0 ≢ 0 → PlaceFrom D (i + 1)
  place_next h o =
      let later : zero_place (drop i D) ≡ suc (zero_place (drop (suc i) D)) =
      ap zero_place (drop-cons D i 0 h) ∙ place_later (get_or D i 0) (drop (suc i) D) o in
      let same : zero_place (drop (suc i) D) ≡ zero_place (drop (i + 1) D) = ap (λ (n : ℕ). zero_place (drop n D)) (sym (add-one i)) in
      (omega arith, omega (arith, P.1))

  pub place_end : length D ≤ i → zero_place D ≡ i
  unfolding zero_place
  place_end h = P.1 ∙ ap (λ (n : ℕ). i + n) (ap zero_place (drop_of_length-le D h)) ∙ add-zero i

-- ---- the inverses of words have their zeros where these have them

module _ {p : ℕ} (I : Inverses p) where
  pub inverse_nonzero : (d : ℕ) → 0 < d → d < p → inverse p d ≢ 0
  unfolding mul
  inverse_nonzero d h l e =
      let one : d * 0 % p ≡ 1 = ap (λ (n : ℕ). d * n % p) (sym e) ∙ I.product d h l in
      let none : d * 0 % p ≡ 0 = ap (λ (n : ℕ). n % p) (mul-zero d) ∙ zero-mod p in
      absurd (omega arith)

  pub zeros_inverses : (D : List ℕ) → Words p D → zeros (inverses p D) ≡ zeros D
  unfolding inverses
  zeros_inverses [] w = refl
  zeros_inverses (zero ∷ D) w = zeros_here (inverse p 0) (inverses p D) I.none ∙ ap suc (zeros_inverses D (words_tail w)) ∙ sym (zeros_here 0 D refl)
  zeros_inverses (suc d ∷ D) w =
      zeros_later (inverse p (suc d)) (inverses p D) (inverse_nonzero (suc d) (omega arith) (w.at 0))
      ∙ zeros_inverses D (words_tail w) ∙ sym (zeros_later (suc d) D (above_zero d))

  pub place_inverses : (D : List ℕ) → Words p D → zero_place (inverses p D) ≡ zero_place D
  unfolding inverses
  place_inverses [] w = refl
  place_inverses (zero ∷ D) w = place_here (inverse p 0) (inverses p D) I.none ∙ sym (place_here 0 D refl)
  place_inverses (suc d ∷ D) w =
      place_later (inverse p (suc d)) (inverses p D) (inverse_nonzero (suc d) (omega arith) (w.at 0))
      ∙ ap suc (place_inverses D (words_tail w)) ∙ sym (place_later (suc d) D (above_zero d))
