-- What `note` does in each of its cases, and what a map shows after any numbers: a number's bit is how often it came.
use mathlib.Core.Path.{◌≡◌, refl, sym, ap, ◌∙◌}
use mathlib.Core.Bool.{Bool, true, false, cond, false≢true, true≢false}
use mathlib.Core.List.{List, [], ◌∷◌, ◌++◌}
use Prim.Native.Nat.{ℕ, zero, suc, ◌+◌, ◌*◌, ◌-◌, ◌/◌, ◌%◌, ◌^◌, ◌≤◌, ◌<◌}
use native.Mathlib.Nat.{one-mul, mod-eq_of_lt, zero-div, zero-mod}
use native.Mathlib.Decide.{ℕ_discrete}
use native.Mathlib.Omega.{arith}
use lib.Dec.{eqb, ltb, leb}
use lib.ListN.{length, get_or, set, replicate, length-set, length-replicate}
use lib.Pow.{pow-lt}
use lib.Seq.{get_or-set_same, get_or-set_other}
use borrow.Author.Tests.{eq-eqb, ne_eqb, eqb-true, eqb-false, leb-true, ltb-true, le-leb, lt-leb, lt-ltb, le-ltb}
use Rattle.modular.proofs.Words.{left_true, right_true}
use Rattle.repeats.specs.Repeats.{repeats}
use Rattle.repeats.specs.Maps.{window, map_words, in_window, bit_at, with_bit, noting, note}
use Rattle.repeats.proofs.Members.{repeats_twice, times, times_none, times_same, times_other, times_member}
use Rattle.repeats.proofs.Bits.{bit_set, bit_kept, bit_fits}

-- ---- the numbers that a map has a bit for

inside : (base q : ℕ) → base ≤ q → q - base < window → in_window base q ≡ true
unfolding in_window
inside base q a b = rw (le-leb base q a, lt-ltb (q - base) window b)

before : (base q : ℕ) → q < base → in_window base q ≡ false
unfolding in_window
before base q a = rw (lt-leb base q a)

behind : (base q : ℕ) → base ≤ q → window ≤ q - base → in_window base q ≡ false
unfolding in_window
behind base q a b = rw (le-leb base q a, le-ltb (q - base) window b)

inside_is : (base q : ℕ) → in_window base q ≡ true → (base ≤ q) × (q - base < window)
unfolding in_window
inside_is base q e = (leb-true base q (left_true (leb base q) (ltb (q - base) window) e), ltb-true (q - base) window (right_true (leb base q) (ltb (q - base) window) e))

-- ---- the cases of `note`, as its code has them

module _ (base q : ℕ) (map : List ℕ) where
  abbrev byte : ℕ
  byte = get_or map ((q - base) / 64) 0

  abbrev bit : ℕ
  bit = (q - base) % 64

  pub note_before : q < base → noting map false ≡ note base q map
  unfolding note
  note_before a = rw (before base q a)

  pub note_behind : base ≤ q → window ≤ q - base → noting map false ≡ note base q map
  unfolding note
  note_behind a b = rw (behind base q a b)

  pub note_again : base ≤ q → q - base < window → byte / 2 ^ bit % 2 ≡ 1 → noting map true ≡ note base q map
  unfolding note bit_at
  note_again a b e = rw (inside base q a b, eq-eqb (byte / 2 ^ bit % 2) 1 e)

  module _ (a : base ≤ q) (b : q - base < window) (e : byte / 2 ^ bit % 2 ≡ 1 → ⊥) where
    -- the power of 2 as the code makes it
    shifted : 1 * 2 ^ bit % 18446744073709551616 ≡ 2 ^ bit
    shifted =
        let c : bit < 64 = omega arith in
        ap (λ (x : ℕ). x % 18446744073709551616) (one-mul (2 ^ bit)) ∙ mod-eq_of_lt {n = 2 ^ bit} {m = 2 ^ 64} (pow-lt c)

    clear : byte / 2 ^ bit % 2 ≡ 0
    clear = omega (arith, e)

    pub note_fits : byte < 2 ^ 64 → byte + 1 * 2 ^ bit % 18446744073709551616 < 2 ^ 64
    note_fits s = rw shifted (bit_fits byte bit clear 64 (omega arith) s)

    pub note_new : noting (set map ((q - base) / 64) (byte + 1 * 2 ^ bit % 18446744073709551616)) false ≡ note base q map
    unfolding note bit_at with_bit
    note_new = rw (inside base q a b, ne_eqb (byte / 2 ^ bit % 2) 1 e, shifted)

-- ---- bits

bit_of : (map : List ℕ) (b : ℕ) → bit_at map b ≤ 1
unfolding bit_at
bit_of map b = omega arith

module _ (map : List ℕ) (b : ℕ) (there : b / 64 < length map) (clear : bit_at map b ≡ 0) where
  set-bit : bit_at (with_bit map b) b ≡ 1
  unfolding bit_at with_bit
  set-bit =
      let x : ℕ = get_or map (b / 64) 0 in
      ap (λ (y : ℕ). y / 2 ^ (b % 64) % 2) (get_or-set_same map (b / 64) (x + 2 ^ (b % 64)) 0 there) ∙ bit_set x (b % 64) clear

  other_bit : (c : ℕ) → (c ≡ b → ⊥) → bit_at (with_bit map b) c ≡ bit_at map c
  unfolding bit_at with_bit
  other_bit c o = go (ℕ_discrete (c / 64) (b / 64))
    where
      x : ℕ
      x = get_or map (b / 64) 0

      go : Dec (c / 64 ≡ b / 64) → get_or (set map (b / 64) (x + 2 ^ (b % 64))) (c / 64) 0 / 2 ^ (c % 64) % 2 ≡ get_or map (c / 64) 0 / 2 ^ (c % 64) % 2
      go (yes e) =
          let f : get_or (set map (b / 64) (x + 2 ^ (b % 64))) (c / 64) 0 ≡ x + 2 ^ (b % 64) =
          ap (λ (i : ℕ). get_or (set map (b / 64) (x + 2 ^ (b % 64))) i 0) e ∙ get_or-set_same map (b / 64) (x + 2 ^ (b % 64)) 0 there in
          let g : c % 64 ≡ b % 64 → ⊥ = λ h. o (omega arith) in
          ap (λ (y : ℕ). y / 2 ^ (c % 64) % 2) f ∙ bit_kept x (b % 64) clear (c % 64) g ∙ ap (λ (i : ℕ). get_or map i 0 / 2 ^ (c % 64) % 2) (sym e)
      go (no e) = ap (λ (y : ℕ). y / 2 ^ (c % 64) % 2) (get_or-set_other map (b / 64) (c / 64) (x + 2 ^ (b % 64)) 0 e)

-- ---- a map after numbers

-- Of the numbers ps, which came in this order, a map shows how often each came for which it has a bit.
pub record Noted (base : ℕ) (ps map : List ℕ) : Type 0 where
  pub sized : length map ≡ map_words
  pub shown : (b : ℕ) → b < window → bit_at map b ≡ times (base + b) ps

-- so none of these came twice
pub noted_once : (base : ℕ) (ps map : List ℕ) → Noted base ps map → (q : ℕ) → base ≤ q → q - base < window → times q ps ≤ 1
noted_once base ps map N q a b =
    let e : base + (q - base) ≡ q = omega (arith, a) in
    let f : bit_at map (q - base) ≡ times q ps = N.shown (q - base) b ∙ ap (λ (x : ℕ). times x ps) e in
    omega (arith, f, bit_of map (q - base))

zeros_at : (n i : ℕ) → ◌≡◌ {A = ℕ} (get_or (replicate n 0) i 0) 0
zeros_at zero i = refl
zeros_at (suc n) zero = refl
zeros_at (suc n) (suc i) = zeros_at n i

pub noted_none : (base : ℕ) → Noted base [] (replicate map_words 0)
unfolding bit_at
noted_none base = record {
  sized = length-replicate {A = ℕ} map_words 0;
  shown = λ b h.
      ap (λ (x : ℕ). x / 2 ^ (b % 64) % 2) (zeros_at map_words (b / 64)) ∙ ap (λ (x : ℕ). x % 2) (zero-div (2 ^ (b % 64))) ∙ zero-mod 2 ∙ sym (times_none (base + b));
}

module _ (base : ℕ) (ps : List ℕ) (q : ℕ) (map : List ℕ) (N : Noted base ps map) where
  own : base ≤ q → q - base < window → bit_at map (q - base) ≡ times q ps
  own a b =
      let e : base + (q - base) ≡ q = omega (arith, a) in
      N.shown (q - base) b ∙ ap (λ (x : ℕ). times x ps) e

  -- a number that was noted before came before
  pub noted_again : (note base q map).again ≡ true → repeats (ps ++ (q ∷ [])) ≡ true
  unfolding note
  noted_again = go (in_window base q) (eqb (bit_at map (q - base)) 1) refl refl
    where
      go : (w b : Bool) → in_window base q ≡ w → eqb (bit_at map (q - base)) 1 ≡ b
          → (cond w (cond b (noting map true) (noting (with_bit map (q - base)) false)) (noting map false)).again ≡ true → repeats (ps ++ (q ∷ [])) ≡ true
      go true true w e f =
          let i = inside_is base q w in
          repeats_twice ps q (times_member q ps (omega (arith, own i.0 i.1, eqb-true (bit_at map (q - base)) 1 e)))
      go true false w e f = absurd (false≢true f)
      go false b w e f = absurd (false≢true f)

  outside : in_window base q ≡ false → Noted base (ps ++ (q ∷ [])) map
  outside w = record {
    sized = N.sized;
    shown = λ b h. N.shown b h ∙ sym (times_other (base + b) ps q (λ f. true≢false (sym (inside base q (omega arith) (omega arith)) ∙ w)));
  }

  module _ (a : base ≤ q) (b : q - base < window) (e : bit_at map (q - base) ≡ 0) where
    long : length (with_bit map (q - base)) ≡ length map
    unfolding with_bit
    long = length-set map ((q - base) / 64) _

    there : (q - base) / 64 < length map
    there = omega (arith, N.sized, b)

    with_own : Noted base (ps ++ (q ∷ [])) (with_bit map (q - base))
    with_own = record { sized = long ∙ N.sized; shown = λ c h. at c h (ℕ_discrete c (q - base)) }
      where
        at : (c : ℕ) → c < window → Dec (c ≡ q - base) → bit_at (with_bit map (q - base)) c ≡ times (base + c) (ps ++ (q ∷ []))
        at c h (yes f) =
            let g : base + c ≡ q = omega (arith, a, f) in
            ap (bit_at (with_bit map (q - base))) f ∙ set-bit map (q - base) there e
            ∙ ap suc (sym e ∙ own a b) ∙ sym (ap (λ (x : ℕ). times x (ps ++ (q ∷ []))) g ∙ times_same q ps q refl)
        at c h (no f) =
            other_bit map (q - base) there e c f ∙ N.shown c h ∙ sym (times_other (base + c) ps q (λ g. f (omega arith)))

  -- any other is noted from now on
  pub noted_new : (note base q map).again ≡ false → Noted base (ps ++ (q ∷ [])) (note base q map).map
  unfolding note
  noted_new = go (in_window base q) (eqb (bit_at map (q - base)) 1) refl refl
    where
      go : (w b : Bool) → in_window base q ≡ w → eqb (bit_at map (q - base)) 1 ≡ b
          → (cond w (cond b (noting map true) (noting (with_bit map (q - base)) false)) (noting map false)).again ≡ false
          → Noted base (ps ++ (q ∷ [])) (cond w (cond b (noting map true) (noting (with_bit map (q - base)) false)) (noting map false)).map
      go true true w e f = absurd (true≢false f)
      go true false w e f =
          let i = inside_is base q w in
          with_own i.0 i.1 (omega (arith, eqb-false (bit_at map (q - base)) 1 e, bit_of map (q - base)))
      go false b w e f = outside w
