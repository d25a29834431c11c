-- Rounds undone one at a time, the last first, as the loops do them: the constants of a round by their places.
use mathlib.Core.Path.{◌≡◌, refl, sym, ap, ap₂, subst, ◌∙◌}
use mathlib.Core.List.{List, [], ◌∷◌}
use Prim.Native.Nat.{ℕ, zero, suc, ◌+◌, ◌*◌, ◌-◌, ◌<◌, ◌≤◌}
use native.Mathlib.Nat.{add-zero, mul-zero, mul-suc, sub-zero, mul-le-mul}
use native.Mathlib.Omega.{arith}
use lib.ListN.{length, get_or, take, drop, set, length-map}
use lib.Seq.{drop-drop}
use Rattle.modular.specs.Arithmetic.{sub, seventh_root}
use Rattle.fields.specs.Prime.{prime}
use Rattle.poseidon2.specs.Inverse.{sub_lists, seventh_roots, unexternal, unraise_first, unfull_round, unfull_rounds}
use Rattle.poseidon2.specs.Statements.{Width, State}
use Rattle.poseidon2.proofs.External.{by_width}
use Rattle.poseidon2.proofs.Places.{first_at, rest_at}
use Rattle.inversion.specs.Kept.{WordsBelow, uninternal_by, unpartial_round_by, unpartial_rounds_by}
use Rattle.inversion.proofs.Words.{unexternal_state, unfull_rounds-state, unpartial_rounds_by-state}
use Rattle.inversion.proofs.Kept.{sub_lists-take}

-- the place of a round's first constant, from that of the next round
pub place_before : (t i : ℕ) → 0 < i → t * (i - 1) + t ≡ t * i
place_before t zero h = absurd (omega arith)
place_before t (suc i) h =
    let e : suc i - 1 ≡ i = omega arith in
    ap (λ (n : ℕ). t * n + t) e ∙ sym (mul-suc t i)

-- the constants of a round below n end where those of n rounds do, or before
pub round_fits : (t m i n : ℕ) → m ≡ t → 0 < i → i ≤ n → m * (i - 1) + m ≤ t * n
round_fits t m i n e h l =
    let b : t * i ≤ t * n = mul-le-mul {n₁ = t} {m₁ = i} {n₂ = t} {m₂ = n} (omega arith) l in
    rw e (omega (arith, place_before t i h))

pub fewer_words : {m n : ℕ} {C : List ℕ} → WordsBelow prime n C → m ≤ n → WordsBelow prime m C
fewer_words w h = record { at = λ i l. w.at i (omega arith) }

-- a width is small
pub width_small : {t : ℕ} → Width t → (4 ≤ t) × (t ≤ 12)
width_small w = by_width (λ t. (4 ≤ t) × (t ≤ 12)) w (omega arith, omega arith) (omega arith, omega arith) (omega arith, omega arith)

-- the rounds from i on are undone
abbrev pub full_from : ℕ → List ℕ → ℕ → ℕ → List ℕ → ℕ → List ℕ
full_from t C at rounds xs i = unfull_rounds prime t (rounds - i) (drop (at + t * i) C) xs

module _ (t : ℕ) (C : List ℕ) (at rounds : ℕ) (xs : List ℕ) where
  pub full_none : xs ≡ full_from t C at rounds xs rounds
  unfolding unfull_rounds
  full_none =
      let z : rounds - rounds ≡ 0 = omega arith in
      sym (ap (λ (n : ℕ). unfull_rounds prime t n (drop (at + t * rounds) C) xs) z)

  pub full_all : full_from t C at rounds xs 0 ≡ unfull_rounds prime t rounds (drop at C) xs
  full_all = ap₂ (λ (m n : ℕ). unfull_rounds prime t m (drop n C) xs) (sub-zero rounds) (ap (λ (n : ℕ). at + n) (mul-zero t) ∙ add-zero at)

  pub full_more : (i : ℕ) (st : List ℕ) → Width t → 0 < i → i ≤ rounds → State prime t st → st ≡ full_from t C at rounds xs i
      → unfull_round prime (drop (at + t * (i - 1)) C) st ≡ full_from t C at rounds xs (i - 1)
  unfolding unfull_rounds unfull_round seventh_roots
  full_more i st w h l s e =
      let cs : List ℕ = drop (at + t * (i - 1)) C in
      let long : length (seventh_roots prime (unexternal prime st)) ≡ t = length-map (unexternal prime st) (seventh_root prime) ∙ (unexternal_state w s).width in
      let next : at + t * (i - 1) + t ≡ at + t * i = omega (arith, place_before t i h) in
      let rest : drop (at + t * i) C ≡ drop t cs = sym (drop-drop t (at + t * (i - 1)) C ∙ ap (λ (n : ℕ). drop n C) next) in
      let n : suc (rounds - i) ≡ rounds - (i - 1) = omega arith in
      sym (sub_lists-take prime (seventh_roots prime (unexternal prime st)) cs)
      ∙ ap (λ (m : ℕ). sub_lists prime (seventh_roots prime (unexternal prime st)) (take m cs)) long
      ∙ ap (unfull_round prime (take t cs)) (e ∙ ap (λ (ds : List ℕ). unfull_rounds prime t (rounds - i) ds xs) rest)
      ∙ ap (λ (m : ℕ). unfull_rounds prime t m cs xs) n

-- word 0 alone
first_set : (q c : ℕ) (st : List ℕ) → set st 0 (sub q (seventh_root q (get_or st 0 0)) c) ≡ unraise_first q c st
unfolding unraise_first
first_set q c [] = refl
first_set q c (x ∷ st) = refl

abbrev pub partial_from : List ℕ → ℕ → List ℕ → ℕ → ℕ → List ℕ → ℕ → List ℕ
partial_from es k C at rounds xs i = unpartial_rounds_by prime es k (rounds - i) (drop (at + i) C) xs

module _ (es : List ℕ) (k : ℕ) (C : List ℕ) (at rounds : ℕ) (xs : List ℕ) where
  pub partial_none : xs ≡ partial_from es k C at rounds xs rounds
  unfolding unpartial_rounds_by
  partial_none =
      let z : rounds - rounds ≡ 0 = omega arith in
      sym (ap (λ (n : ℕ). unpartial_rounds_by prime es k n (drop (at + rounds) C) xs) z)

  pub partial_all : partial_from es k C at rounds xs 0 ≡ unpartial_rounds_by prime es k rounds (drop at C) xs
  partial_all = ap₂ (λ (m n : ℕ). unpartial_rounds_by prime es k m (drop n C) xs) (sub-zero rounds) (add-zero at)

  pub partial_more : (i : ℕ) (st : List ℕ) (v : ℕ) → 0 < i → i ≤ rounds → st ≡ partial_from es k C at rounds xs i
      → v ≡ sub prime (seventh_root prime (get_or (uninternal_by prime es k st) 0 0)) (get_or C (at + (i - 1)) 0)
      → set (uninternal_by prime es k st) 0 v ≡ partial_from es k C at rounds xs (i - 1)
  unfolding unpartial_rounds_by unpartial_round_by
  partial_more i st v h l e g =
      let j : ℕ = at + (i - 1) in
      let cs : List ℕ = drop j C in
      let next : suc (at + (i - 1)) ≡ at + i = omega arith in
      let rest : drop (at + i) C ≡ drop 1 cs = sym (rest_at C j ∙ ap (λ (n : ℕ). drop n C) next) in
      let n : suc (rounds - i) ≡ rounds - (i - 1) = omega arith in
      ap (set (uninternal_by prime es k st) 0) g
      ∙ first_set prime (get_or C j 0) (uninternal_by prime es k st)
      ∙ ap₂ (λ (c : ℕ) (ys : List ℕ). unraise_first prime c (uninternal_by prime es k ys)) (sym (first_at C j)) (e ∙ ap (λ (ds : List ℕ). unpartial_rounds_by prime es k (rounds - i) ds xs) rest)
      ∙ ap (λ (m : ℕ). unpartial_rounds_by prime es k m cs xs) n

-- ---- the calls one after the other

-- what a call leaves is a state of the same width
pub full_step : {t : ℕ} {x : List ℕ} (n : ℕ) (cs y : List ℕ) → Width t → State prime t x → y ≡ unfull_rounds prime (length x) n cs x
    → (y ≡ unfull_rounds prime t n cs x) × State prime t y
full_step {t} {x} n cs y w s e =
    let q : y ≡ unfull_rounds prime t n cs x = e ∙ ap (λ (m : ℕ). unfull_rounds prime m n cs x) s.width in
    (q, subst (State prime t) (sym q) (unfull_rounds-state n cs x w s))

pub partial_step : {t : ℕ} {x : List ℕ} (es : List ℕ) (k n : ℕ) (cs y : List ℕ) → State prime t x → y ≡ unpartial_rounds_by prime (take (length x) es) k n cs x
    → (y ≡ unpartial_rounds_by prime (take t es) k n cs x) × State prime t y
partial_step {t} {x} es k n cs y s e =
    let q : y ≡ unpartial_rounds_by prime (take t es) k n cs x = e ∙ ap (λ (m : ℕ). unpartial_rounds_by prime (take m es) k n cs x) s.width in
    (q, subst (State prime t) (sym q) (unpartial_rounds_by-state (take t es) k n cs x s))

-- the constants' places fit
pub halves : {t : ℕ} (m half : ℕ) → Width t → m ≡ t → half ≤ 6 → (m * half ≡ t * half) × (t * half ≤ 72) × (t * (2 * half) ≡ t * half + t * half)
halves {t} m half w e h =
    let b : (t * half ≤ 72) × (t * (2 * half) ≡ t * half + t * half) =
    by_width (λ t. (t * half ≤ 72) × (t * (2 * half) ≡ t * half + t * half)) w (omega arith, omega arith) (omega arith, omega arith) (omega arith, omega arith) in
    (ap (λ (n : ℕ). n * half) e, b.0, b.1)
