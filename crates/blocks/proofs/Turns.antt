-- One turn of each loop, and the permutation put together, for any width.
use mathlib.Core.Path.{◌≡◌, refl, sym, ap, ap₂, ◌∙◌}
use mathlib.Core.List.{List, [], ◌∷◌, ◌++◌}
use Prim.Native.Nat.{ℕ, zero, suc, ◌+◌, ◌*◌, ◌-◌, ◌%◌, ◌<◌, ◌≤◌}
use native.Mathlib.Nat.{add-zero, mul-add, mul-one, mul-zero, mul-le-mul_left, mod-mod}
use native.Mathlib.Numerals.{add-one}
use native.Mathlib.Omega.{arith}
use lib.ListN.{length, get_or, take, drop}
use lib.Seq.{get_or-take, get_or-drop, take-add, drop-drop}
use Rattle.modular.specs.Arithmetic.{add, pow}
use Rattle.modular.specs.Congruence.{◌≈⟨◌⟩◌}
use Rattle.modular.proofs.Congruence.{refl≈, mod≈, add≈}
use Rattle.poseidon2.specs.Layers.{add_lists, sum, external, plus_multiples, internal}
use Rattle.poseidon2.specs.Rounds.{add_constants, seventh_powers, full_round, raise_first, partial_round, full_rounds, partial_rounds, permute_at, permute}
use Rattle.poseidon2.specs.Residues.{residues}
use Rattle.poseidon2.proofs.Words.{cons_eq, residues_twice}
use Rattle.poseidon2.proofs.Internal.{internal_residues}
use Rattle.poseidon2.proofs.Residues.{external_residues, full_round-residues, partial_round-residues}
use Rattle.poseidon2.proofs.Places.{add_lists-take, full_rounds-at}
use Rattle.poseidon2.proofs.Rounds.{permute_at_lem}
use Rattle.blocks.specs.Blocks.{four, flat_from, flat}
use Rattle.blocks.proofs.Each.{flat_by}
use Rattle.blocks.proofs.Lists.{append_eq}

-- ---- full rounds

module _ (p : ℕ) where
  -- M_E of raised numbers is a full round, from whichever numbers stand for the words
  round_law : (t k : ℕ) (C es rs : List ℕ) → length es ≡ t → residues p rs ≡ seventh_powers p (add_constants p (drop k C) es)
      → external p rs ≡ full_round p (take t (drop k C)) (residues p es)
  unfolding full_round add_constants
  round_law t k C es rs l e =
      sym (external_residues p rs) ∙ ap (external p) (e ∙ ap (seventh_powers p) (sym (add_lists-take p es (drop k C)) ∙ ap (λ (n : ℕ). add_lists p es (take n (drop k C))) l))
      ∙ sym (full_round-residues p (take t (drop k C)) es)

  -- after i of n rounds the numbers are ss, from which those left lead to where all lead from xs
  pub record Turning (t k n : ℕ) (C xs : List ℕ) (i : ℕ) (ss : List ℕ) : Type 0 where
    pub within : i ≤ n
    pub left : full_rounds p t (n - i) (drop (k + t * i) C) (external p ss) ≡ full_rounds p t n (drop k C) (external p xs)

  pub full_none : (t k n : ℕ) (C xs : List ℕ) → Turning t k n C xs 0 xs
  full_none t k n C xs =
      let a : n - 0 ≡ n = omega arith in
      let b : k + t * 0 ≡ k = ap (λ (m : ℕ). k + m) (mul-zero t) ∙ add-zero k in
      record { within = omega arith; left = ap₂ (λ (m j : ℕ). full_rounds p t m (drop j C) (external p xs)) a b }

  module _ {t k n : ℕ} {C xs : List ℕ} {i : ℕ} {ss : List ℕ} (T : Turning t k n C xs i ss) (es : List ℕ) where
    pub full_turn : {rs : List ℕ} → i < n → length es ≡ t → residues p es ≡ external p ss
        → residues p rs ≡ seventh_powers p (add_constants p (drop (k + t * i) C) es) → Turning t k n C xs (i + 1) rs
    full_turn {rs} h l e f =
        let a : k + t * (i + 1) ≡ k + t * i + t = omega (arith, mul-add t i 1, mul-one t) in
        let b : n - i ≡ suc (n - (i + 1)) = omega arith in
        record {
          within = omega arith;
          left =
              ap₂ (λ (m : ℕ) (ys : List ℕ). full_rounds p t (n - (i + 1)) (drop m C) ys) a (round_law t (k + t * i) C es rs l f)
              ∙ sym (full_rounds-at p t (n - (i + 1)) C (k + t * i) (residues p es))
              ∙ ap₂ (λ (m : ℕ) (ys : List ℕ). full_rounds p t m (drop (k + t * i) C) ys) (sym b) e
              ∙ T.left;
        }

    pub full_end : n ≤ i → residues p es ≡ external p ss → residues p es ≡ full_rounds p t n (drop k C) (external p xs)
    unfolding full_rounds
    full_end h e =
        let z : n - i ≡ 0 = omega arith in
        e ∙ sym (ap (λ (m : ℕ). full_rounds p t m (drop (k + t * i) C) (external p ss)) z) ∙ T.left

  -- ---- partial rounds

  -- the last of n + 1
  last_round : (D cs : List ℕ) (n : ℕ) (xs : List ℕ) → partial_rounds p D (suc n) cs xs ≡ partial_round p D (get_or cs n 0) (partial_rounds p D n cs xs)
  unfolding partial_rounds
  last_round D cs zero xs = refl
  last_round D cs (suc n) xs =
      last_round D (drop 1 cs) n (partial_round p D (get_or cs 0 0) xs)
      ∙ ap (λ (c : ℕ). partial_round p D c (partial_rounds p D n (drop 1 cs) (partial_round p D (get_or cs 0 0) xs)))
      (get_or-drop 1 cs n 0 ∙ ap (λ (m : ℕ). get_or cs m 0) (one_more_lem n))
    where
      one_more_lem : (m : ℕ) → 1 + m ≡ suc m
      one_more_lem m = omega arith

  add_none : (xs : List ℕ) → add_lists p xs [] ≡ residues p xs
  unfolding add_lists residues add
  add_none [] = refl
  add_none (x ∷ xs) = cons_eq (ap (λ (y : ℕ). y % p) (add-zero x)) (add_none xs)

  rest_twice : (y : ℕ) (xs : List ℕ) → residues p (y ∷ residues p xs) ≡ residues p (y ∷ xs)
  unfolding residues
  rest_twice y xs = cons_eq refl (residues_twice p xs)

  -- a constant added before is the round's own
  own_constant : (D : List ℕ) (c : ℕ) (xs : List ℕ) → partial_round p D 0 (add_constants p (c ∷ []) xs) ≡ partial_round p D c xs
  unfolding partial_round add_constants add_lists raise_first add
  own_constant D c [] = refl
  own_constant D c (x ∷ xs) =
      ap₂ (λ (y : ℕ) (ys : List ℕ). internal p D (pow p y 7 ∷ ys)) (ap (λ (y : ℕ). y % p) (add-zero ((x + c) % p)) ∙ mod-mod (x + c) p) (add_none xs)
      ∙ sym (internal_residues p D (pow p ((x + c) % p) 7 ∷ residues p xs))
      ∙ ap (internal p D) (rest_twice (pow p ((x + c) % p) 7) xs)
      ∙ internal_residues p D (pow p ((x + c) % p) 7 ∷ xs)

  -- the constant of round i of n is there, and after the last there is none
  pub constant_at : (C : List ℕ) (k n i : ℕ) → i < n → get_or (take (k + n) C) (k + i) 0 ≡ get_or C (k + i) 0
  constant_at C k n i h = let g : k + i < k + n = omega arith in get_or-take (k + n) C (k + i) 0 g

  constant_in : (C : List ℕ) (k n i : ℕ) → i < n → get_or (take (k + n) C) (k + i) 0 ≡ get_or (drop k C) i 0
  constant_in C k n i h = constant_at C k n i h ∙ sym (get_or-drop k C i 0)

  pub constant_out : (C : List ℕ) (k n i : ℕ) → n ≤ i → get_or (take (k + n) C) (k + i) 0 ≡ 0
  constant_out C k n i h = beyond (k + n) C (k + i) (omega arith)
    where
      beyond : (m : ℕ) (xs : List ℕ) (j : ℕ) → m ≤ j → get_or (take m xs) j 0 ≡ 0
      beyond zero xs j h = refl
      beyond (suc m) [] j h = refl
      beyond (suc m) (x ∷ xs) zero h = absurd (omega arith)
      beyond (suc m) (x ∷ xs) (suc j) h = beyond m xs j (omega arith)

  no_constant : (ys : List ℕ) → residues p ys ≡ ys → add_constants p (0 ∷ []) ys ≡ ys
  unfolding add_constants add_lists add residues
  no_constant [] h = refl
  no_constant (y ∷ ys) h = cons_eq (ap (λ (z : ℕ). z % p) (add-zero y)) (add_none ys) ∙ h

  multiples_words : (q : ℕ) (D xs : List ℕ) → residues p (plus_multiples p q D xs) ≡ plus_multiples p q D xs
  unfolding plus_multiples residues
  multiples_words q D [] = refl
  multiples_words q D (x ∷ xs) = cons_eq (mod-mod (q + get_or D 0 0 * x) p) (multiples_words q (drop 1 D) xs)

  rounds_words : (D cs : List ℕ) (n : ℕ) (xs : List ℕ) → residues p xs ≡ xs → residues p (partial_rounds p D n cs xs) ≡ partial_rounds p D n cs xs
  unfolding partial_rounds partial_round internal
  rounds_words D cs zero xs h = h
  rounds_words D cs (suc n) xs h =
      let ys = raise_first p (get_or cs 0 0) xs in
      rounds_words D (drop 1 cs) n (partial_round p D (get_or cs 0 0) xs) (multiples_words (sum ys) D ys)

  -- the numbers ss stand for the words after i of n rounds, with round i's constant added
  abbrev Ready : List ℕ → List ℕ → ℕ → ℕ → ℕ → List ℕ → List ℕ → Type 0
  Ready D C k n i xs ss = residues p ss ≡ add_constants p (get_or (take (k + n) C) (k + i) 0 ∷ []) (partial_rounds p D i (drop k C) xs)

  -- they do if the numbers from did before the first round
  pub record Going (D C : List ℕ) (k n : ℕ) (from : List ℕ) (i : ℕ) (ss : List ℕ) : Type 0 where
    pub within : i ≤ n
    pub ready : (xs : List ℕ) → Ready D C k n 0 xs from → Ready D C k n i xs ss

  pub partial_none : (D C : List ℕ) (k n : ℕ) (ss : List ℕ) → Going D C k n ss 0 ss
  partial_none D C k n ss = record { within = omega arith; ready = λ xs r. r }

  module _ {D C : List ℕ} {k n : ℕ} {from : List ℕ} {i : ℕ} {ss : List ℕ} (G : Going D C k n from i ss) where
    pub partial_turn : {c : ℕ} {rs : List ℕ} → i < n → c ≡ get_or (take (k + n) C) (k + (i + 1)) 0
        → residues p rs ≡ add_constants p (c ∷ []) (partial_round p D 0 ss) → Going D C k n from (i + 1) rs
    partial_turn h e f = record {
      within = omega arith;
      ready =
          λ xs r.
          f ∙ ap₂ (λ (d : ℕ) (ys : List ℕ). add_constants p (d ∷ []) ys) e
          (sym (partial_round-residues p D 0 ss) ∙ ap (partial_round p D 0) (G.ready xs r)
          ∙ own_constant D (get_or (take (k + n) C) (k + i) 0) (partial_rounds p D i (drop k C) xs)
          ∙ ap (λ (d : ℕ). partial_round p D d (partial_rounds p D i (drop k C) xs)) (constant_in C k n i h)
          ∙ sym (last_round D (drop k C) i xs) ∙ ap (λ (m : ℕ). partial_rounds p D m (drop k C) xs) (sym (add-one i)));
    }

  first_constant : (s x c : ℕ) (xs : List ℕ) → s ≈⟨ p ⟩ x + c → residues p (s ∷ xs) ≡ add_constants p (c ∷ []) (residues p (x ∷ xs))
  unfolding add_constants add_lists residues add
  first_constant s x c xs w =
      cons_eq (w.same ∙ sym (add≈ (mod≈ x) (refl≈ {a = c})).same) (sym (residues_twice p xs) ∙ sym (add_none (residues p xs)))

  -- word 0 came with the first constant, and after the last round none is added
  pub partial_end : {D C : List ℕ} {k n s : ℕ} {xs : List ℕ} {i : ℕ} {ss : List ℕ} → Going D C k n (s ∷ xs) i ss → (x : ℕ) {c : ℕ} → n ≤ i
      → s ≈⟨ p ⟩ x + c → c ≡ get_or (take (k + n) C) (k + 0) 0 → residues p ss ≡ partial_rounds p D n (drop k C) (residues p (x ∷ xs))
  unfolding partial_rounds
  partial_end {D} {C} {k} {n} {s} {xs} {i} {ss} G x {c} h w e =
      let ys = partial_rounds p D i (drop k C) (residues p (x ∷ xs)) in
      let l : i ≡ n = omega (arith, G.within) in
      G.ready (residues p (x ∷ xs)) (rw e at (first_constant s x c xs w))
      ∙ ap (λ (d : ℕ). add_constants p (d ∷ []) ys) (constant_out C k n i h)
      ∙ no_constant ys (rounds_words D (drop k C) i (residues p (x ∷ xs)) (residues_twice p (x ∷ xs)))
      ∙ ap (λ (m : ℕ). partial_rounds p D m (drop k C) (residues p (x ∷ xs))) l

  -- ---- the permutation

  pub permutation_code : (t half rp : ℕ) (D C xs rs bs es ss : List ℕ) → 1 ≤ half → length xs ≡ t → length bs ≡ t
      → residues p rs ≡ full_rounds p t half (drop 0 C) (external p xs)
      → residues p bs ≡ partial_rounds p (take t D) rp (drop (t * half) C) (residues p rs)
      → residues p es ≡ seventh_powers p (add_constants p (drop (t * half + rp) C) bs)
      → residues p ss ≡ full_rounds p t (half - 1) (drop (t * half + rp + t) C) (external p es)
      → residues p ss ≡ permute p half rp D C xs
  unfolding permute_at
  permutation_code t half rp D C xs rs bs es ss h lx lb ea eb ee f =
      let k = t * half + rp in
      let n : suc (half - 1) ≡ half = omega arith in
      f ∙ ap (full_rounds p t (half - 1) (drop (k + t) C)) (round_law t k C bs es lb ee)
      ∙ sym (full_rounds-at p t (half - 1) C k (residues p bs))
      ∙ ap₂ (λ (m : ℕ) (ys : List ℕ). full_rounds p t m (drop k C) ys) n (eb ∙ ap (partial_rounds p (take t D) rp (drop (t * half) C)) ea)
      ∙ sym (permute_at_lem p t half rp D C xs lx)

-- ---- where the rounds' constants stand, t for a full round

pub turn_fits : (t i n : ℕ) → i < n → t * i + t ≤ t * n
turn_fits t i n h =
    let e : t * i + t ≡ t * (i + 1) = omega (arith, mul-add t i 1, mul-one t) in
    rw e (mul-le-mul_left t (omega arith))

pub twice : (t half : ℕ) → t * (2 * half) ≡ t * half + t * half
twice t half = let e : 2 * half ≡ half + half = omega arith in rw e (mul-add t half half)

pub one_less : (t half : ℕ) → 1 ≤ half → t + t * (half - 1) ≡ t * half
one_less t half h =
    let e : 1 + (half - 1) ≡ half = omega arith in
    let f : t + t * (half - 1) ≡ t * (1 + (half - 1)) = omega (arith, mul-add t 1 (half - 1), mul-one t) in
    f ∙ ap (λ (n : ℕ). t * n) e

-- ---- loading

-- four and n more
more_from : (n k : ℕ) (xs : List ℕ) → take 4 (drop k xs) ++ take n (drop (k + 4) xs) ≡ take (4 + n) (drop k xs)
more_from n k xs = ap (λ (ys : List ℕ). take 4 (drop k xs) ++ take n ys) (sym (drop-drop 4 k xs)) ∙ sym (take-add 4 n (drop k xs))

-- blocks one after another
pub loaded_all : (n : ℕ) (xs : List ℕ) (rs : List (List ℕ)) (at : ℕ) → ((k : ℕ) → k < n → four (get_or rs k []) ≡ take 4 (drop (at + 4 * k) xs))
    → flat n rs ≡ take (4 * n) (drop at xs)
loaded_all n xs rs at e =
    flat_by n (λ i m. flat_from i m rs ≡ take (4 * m) (drop (at + 4 * i) xs)) (λ i. refl)
    (λ i m b f.
    let k : at + 4 * suc i ≡ at + 4 * i + 4 = omega arith in
    let l : 4 + 4 * m ≡ 4 * suc m = omega arith in
    append_eq (e i b) (f ∙ ap (λ (j : ℕ). take (4 * m) (drop j xs)) k) ∙ more_from (4 * m) (at + 4 * i) xs ∙ ap (λ (j : ℕ). take j (drop (at + 4 * i) xs)) l)
    ∙ ap (λ (j : ℕ). take (4 * n) (drop j xs)) (add-zero at)
