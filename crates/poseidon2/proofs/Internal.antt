-- M_I and its inverse undo one another. From y_i = S + D_i x_i and e_i the inverse of D_i: Σ e_i y_i = S (1 + Σ e_i). Where D_z is 0, y_z is S.
use mathlib.Core.Path.{◌≡◌, refl, sym, ap, ◌∙◌}
use mathlib.Core.Logic.{◌≢◌}
use mathlib.Core.List.{List, [], ◌∷◌}
use Prim.Native.Nat.{ℕ, zero, suc, ◌+◌, ◌*◌, ◌%◌, ◌<◌}
use native.Mathlib.Nat.{add-zero, zero-mul, mod-eq_of_lt, zero-mod}
use native.Mathlib.Omega.{arith}
use lib.ListN.{length, get_or, take, drop, set, length-set}
use lib.Seq.{set-set, set-get_or}
use borrow.Author.Tests.{eq-eqb, ne_eqb}
use Rattle.modular.specs.Arithmetic.{sub, mul, inverse}
use Rattle.modular.specs.Congruence.{◌≈⟨◌⟩◌}
use Rattle.modular.specs.PrimeField.{Inverses}
use Rattle.modular.proofs.Congruence.{refl≈, eq≈, sym≈, trans≈, add≈, mul≈, mod≈, rest≈}
use Rattle.modular.proofs.Ring.{var, num, ◌⊕◌, ◌⊗◌, rem, neg, same?, ring, ring_by, nothing, by}
use Rattle.poseidon2.specs.Layers.{sum, dot, plus_multiples, internal}
use Rattle.poseidon2.specs.Inverse.{inverses, multiples_less, zeros, zero_place, uninternal_by_sum, uninternal_at_zero, uninternal}
use Rattle.poseidon2.specs.Residues.{residues}
use Rattle.poseidon2.specs.Statements.{Words, State, AcceptedDiagonal, Undo}
use Rattle.poseidon2.proofs.Words.{cons_eq, words_tail, words_none, words_more, words_set, residues_words, below, state_words}
use Rattle.poseidon2.proofs.Zeros.{zeros_here, zeros_later, place_here, place_later, above_zero, nonzero_at}
use Rattle.poseidon2.proofs.Undo.{undo_same}

-- a number that is not 0 modulo p times the inverse of its residue is 1
pub unit : {p : ℕ} → Inverses p → 3 < p → (n : ℕ) → 0 < n % p → n * inverse p (n % p) ≈⟨ p ⟩ 1
unfolding mul
unit {p} I above n h =
    trans≈ (mul≈ (sym≈ (mod≈ n)) (refl≈ {a = inverse p (n % p)}))
    (record { same = I.product (n % p) h (native.Mathlib.Nat.mod-lt n (omega arith)) ∙ sym (mod-eq_of_lt (omega arith)) })

-- the numbers of the second list are inverses of those of the first
pub data Units (p : ℕ) : List ℕ → List ℕ → Type 0 where
  no_unit : Units p [] []
  and_unit : {d e : ℕ} {D es : List ℕ} → d * e ≈⟨ p ⟩ 1 → Units p D es → Units p (d ∷ D) (e ∷ es)

units_length : {p : ℕ} {D es : List ℕ} → Units p D es → length es ≡ length D
units_length no_unit = refl
units_length (and_unit h u) = ap suc (units_length u)

pub inverses_units : {p : ℕ} → Inverses p → 3 < p → (D : List ℕ) → Words p D → ((i : ℕ) → i < length D → 0 < get_or D i 0) → Units p D (inverses p D)
unfolding inverses mul
inverses_units I above [] w n = no_unit
inverses_units I above (d ∷ D) w n =
    and_unit (record { same = I.product d (n 0 (omega arith)) (w.at 0) ∙ sym (mod-eq_of_lt (omega arith)) })
    (inverses_units I above D (words_tail w) (λ i h. n (suc i) (omega arith)))

-- one number of the first list is 0, at place z, and so is that of the second; the others of the second are inverses of those of the first
pub data OneZero (p : ℕ) : ℕ → List ℕ → List ℕ → Type 0 where
  zero_here : {D es : List ℕ} → Units p D es → OneZero p 0 (0 ∷ D) (0 ∷ es)
  zero_later : {z d e : ℕ} {D es : List ℕ} → d * e ≈⟨ p ⟩ 1 → OneZero p z D es → OneZero p (suc z) (d ∷ D) (e ∷ es)

place_inside : {p z : ℕ} {D es : List ℕ} → OneZero p z D es → z < length D
place_inside (zero_here u) = omega arith
place_inside (zero_later h o) = omega (arith, place_inside o)

pub one_zero : {p : ℕ} → Inverses p → 3 < p → (D : List ℕ) → Words p D → zeros D ≡ 1 → OneZero p (zero_place D) D (inverses p D)
unfolding zeros inverses mul
one_zero I above [] w h = absurd (omega arith)
one_zero {p} I above (zero ∷ D) w h =
    let none : zeros D ≡ 0 = omega (arith, zeros_here 0 D refl) in
    let u : Units p D (inverses p D) = inverses_units I above D (words_tail w) (λ i b. nonzero_at D i none b) in
    rw (place_here 0 D refl, I.none) (zero_here u)
one_zero I above (suc d ∷ D) w h =
    rw (place_later (suc d) D (above_zero d))
    (zero_later (record { same = I.product (suc d) (omega arith) (w.at 0) ∙ sym (mod-eq_of_lt (omega arith)) })
    (one_zero I above D (words_tail w) (sym (zeros_later (suc d) D (above_zero d)) ∙ h)))

-- a number put in the place of another
sum-set : (xs : List ℕ) (z v : ℕ) → z < length xs → sum (set xs z v) + get_or xs z 0 ≡ sum xs + v
unfolding sum
sum-set [] z v h = absurd (omega arith)
sum-set (x ∷ xs) zero v h = omega arith
sum-set (x ∷ xs) (suc z) v h = omega (arith, sum-set xs z v (omega arith))

-- places beyond the words aren't read
pub plus_multiples-take : (p s : ℕ) (D xs : List ℕ) → plus_multiples p s (take (length xs) D) xs ≡ plus_multiples p s D xs
unfolding plus_multiples
plus_multiples-take p s D [] = refl
plus_multiples-take p s [] (x ∷ xs) = refl
plus_multiples-take p s (d ∷ D) (x ∷ xs) = cons_eq refl (plus_multiples-take p s D xs)

pub internal_take : (p : ℕ) (D xs : List ℕ) → internal p (take (length xs) D) xs ≡ internal p D xs
unfolding internal
internal_take p D xs = plus_multiples-take p (sum xs) D xs

pub plus_multiples-length : (p s : ℕ) (D xs : List ℕ) → length (plus_multiples p s D xs) ≡ length xs
unfolding plus_multiples
plus_multiples-length p s D [] = refl
plus_multiples-length p s D (x ∷ xs) = ap suc (plus_multiples-length p s (drop 1 D) xs)

pub internal_length : (p : ℕ) (D xs : List ℕ) → length (internal p D xs) ≡ length xs
unfolding internal
internal_length p D xs = plus_multiples-length p (sum xs) D xs

pub multiples_less-length : (p s : ℕ) (es ys : List ℕ) → length (multiples_less p s es ys) ≡ length ys
unfolding multiples_less
multiples_less-length p s es [] = refl
multiples_less-length p s es (y ∷ ys) = ap suc (multiples_less-length p s (drop 1 es) ys)

-- the layer depends on the residues only: of its words, and of the sum that is at hand
pub plus_multiples-residues : (p : ℕ) {s z : ℕ} → s ≈⟨ p ⟩ z → (D xs : List ℕ) → plus_multiples p s D (residues p xs) ≡ plus_multiples p z D xs
unfolding plus_multiples residues
plus_multiples-residues p h D [] = refl
plus_multiples-residues p h D (x ∷ xs) = cons_eq (add≈ h (mul≈ (refl≈ {a = get_or D 0 0}) (mod≈ x))).same (plus_multiples-residues p h (drop 1 D) xs)

pub sum-residues : (p : ℕ) (xs : List ℕ) → sum (residues p xs) ≈⟨ p ⟩ sum xs
unfolding sum residues
sum-residues p [] = refl≈
sum-residues p (x ∷ xs) = add≈ (mod≈ x) (sum-residues p xs)

pub internal_residues : (p : ℕ) (D xs : List ℕ) → internal p D (residues p xs) ≡ internal p D xs
unfolding internal
internal_residues p D xs = plus_multiples-residues p (sum-residues p xs) D xs

module _ {p : ℕ} (pos : 0 < p) where
  plus_multiples-words : (s : ℕ) (D xs : List ℕ) → Words p (plus_multiples p s D xs)
  unfolding plus_multiples
  plus_multiples-words s D [] = words_none pos
  plus_multiples-words s D (x ∷ xs) = words_more pos (below pos (s + get_or D 0 0 * x)) (plus_multiples-words s (drop 1 D) xs)

  pub multiples_less-words : (s : ℕ) (es ys : List ℕ) → Words p (multiples_less p s es ys)
  unfolding multiples_less mul
  multiples_less-words s es [] = words_none pos
  multiples_less-words s es (y ∷ ys) = words_more pos (below pos (get_or es 0 0 * sub p y s)) (multiples_less-words s (drop 1 es) ys)

  -- M_I undone gives words, whatever the inverses are
  pub by_sum_state : {t : ℕ} (es : List ℕ) (k : ℕ) (ys : List ℕ) → length ys ≡ t → State p t (uninternal_by_sum p es k ys)
  unfolding uninternal_by_sum
  by_sum_state es k ys l = record { width = multiples_less-length p (dot es ys * k) es ys ∙ l; words = multiples_less-words (dot es ys * k) es ys }

  pub at_zero_state : {t : ℕ} (z : ℕ) (es ys : List ℕ) → length ys ≡ t → State p t (uninternal_at_zero p z es ys)
  unfolding uninternal_at_zero sub
  at_zero_state z es ys l =
      let others : List ℕ = multiples_less p (get_or ys z 0) es ys in
      record {
        width = length-set others z _ ∙ multiples_less-length p (get_or ys z 0) es ys ∙ l;
        words = words_set pos others (multiples_less-words (get_or ys z 0) es ys) z _ (below pos _);
      }

  pub internal_words : (D xs : List ℕ) → Words p (internal p D xs)
  unfolding internal
  internal_words D xs = plus_multiples-words (sum xs) D xs

  pub internal_state : {t : ℕ} (D xs : List ℕ) → length xs ≡ t → State p t (internal p D xs)
  internal_state D xs l = record { width = internal_length p D xs ∙ l; words = internal_words D xs }

  -- Σ e_i (s + D_i x_i) = s Σ e_i + Σ x_i
  dot-plus_multiples : (s : ℕ) {D es : List ℕ} (xs : List ℕ) → Units p D es → length xs ≡ length D
      → dot es (plus_multiples p s D xs) ≈⟨ p ⟩ s * sum es + sum xs
  unfolding same? dot plus_multiples sum
  dot-plus_multiples s [] no_unit l = ring p (s ∷ []) (num 0) (var 0 ⊗ num 0 ⊕ num 0) pos tt
  dot-plus_multiples s (x ∷ xs) no_unit l = absurd (omega arith)
  dot-plus_multiples s [] (and_unit h u) l = absurd (omega arith)
  dot-plus_multiples s (x ∷ xs) (and_unit {d} {e} {D} {es} h u) l =
      ring_by p (s ∷ d ∷ e ∷ x ∷ dot es (plus_multiples p s D xs) ∷ sum es ∷ sum xs ∷ [])
      (var 2 ⊗ rem (var 0 ⊕ var 1 ⊗ var 3) ⊕ var 4) (var 0 ⊗ (var 2 ⊕ var 5) ⊕ (var 3 ⊕ var 6))
      (by (var 3) (var 1 ⊗ var 2) (num 1) h (by (num 1) (var 4) (var 0 ⊗ var 5 ⊕ var 6) (dot-plus_multiples s xs u (omega arith)) nothing)) pos tt

  -- with the sum at hand a word is found again
  word_back : {s z : ℕ} (d e x : ℕ) → d * e ≈⟨ p ⟩ 1 → z ≈⟨ p ⟩ s → mul p e (sub p ((s + d * x) % p) z) ≡ x % p
  unfolding same? mul sub
  word_back {s} {z} d e x h w =
      (ring_by p (s ∷ z ∷ d ∷ e ∷ x ∷ []) (var 3 ⊗ rem (rem (var 0 ⊕ var 2 ⊗ var 4) ⊕ neg (var 1))) (var 4)
      (by (var 4) (var 2 ⊗ var 3) (num 1) h (by (neg (var 3)) (var 1) (var 0) w nothing)) pos tt).same

  word_forth : {s z : ℕ} (d e y : ℕ) → d * e ≈⟨ p ⟩ 1 → z ≈⟨ p ⟩ s → (z + d * mul p e (sub p y s)) % p ≡ y % p
  unfolding same? mul sub
  word_forth {s} {z} d e y h w =
      (ring_by p (s ∷ z ∷ d ∷ e ∷ y ∷ []) (var 1 ⊕ var 2 ⊗ rem (var 3 ⊗ rem (var 4 ⊕ neg (var 0)))) (var 4)
      (by (var 4 ⊕ neg (var 0)) (var 2 ⊗ var 3) (num 1) h (by (num 1) (var 1) (var 0) w nothing)) pos tt).same

  -- and so all of them
  less_plus : {s z : ℕ} {D es : List ℕ} (xs : List ℕ) → Units p D es → z ≈⟨ p ⟩ s → length xs ≡ length D
      → multiples_less p z es (plus_multiples p s D xs) ≡ residues p xs
  unfolding multiples_less plus_multiples residues
  less_plus [] no_unit w l = refl
  less_plus (x ∷ xs) no_unit w l = absurd (omega arith)
  less_plus [] (and_unit h u) w l = absurd (omega arith)
  less_plus (x ∷ xs) (and_unit {d} {e} h u) w l = cons_eq (word_back d e x h w) (less_plus xs u w (omega arith))

  -- Σ e_i (y_i - s) and s Σ e_i are Σ e_i y_i
  sum-multiples_less : (s : ℕ) (es ys : List ℕ) → length ys ≡ length es → sum (multiples_less p s es ys) + s * sum es ≈⟨ p ⟩ dot es ys
  unfolding same? sum multiples_less dot mul sub
  sum-multiples_less s [] [] l = ring p (s ∷ []) (num 0 ⊕ var 0 ⊗ num 0) (num 0) pos tt
  sum-multiples_less s [] (y ∷ ys) l = absurd (omega arith)
  sum-multiples_less s (e ∷ es) [] l = absurd (omega arith)
  sum-multiples_less s (e ∷ es) (y ∷ ys) l =
      ring_by p (s ∷ e ∷ y ∷ sum (multiples_less p s es ys) ∷ sum es ∷ dot es ys ∷ [])
      (rem (var 1 ⊗ rem (var 2 ⊕ neg (var 0))) ⊕ var 3 ⊕ var 0 ⊗ (var 1 ⊕ var 4)) (var 1 ⊗ var 2 ⊕ var 5)
      (by (num 1) (var 3 ⊕ var 0 ⊗ var 4) (var 5) (sum-multiples_less s es ys (omega arith)) nothing) pos tt

  plus_less : {s z : ℕ} {D es : List ℕ} (ys : List ℕ) → Units p D es → z ≈⟨ p ⟩ s → length ys ≡ length D
      → plus_multiples p z D (multiples_less p s es ys) ≡ residues p ys
  unfolding multiples_less plus_multiples residues
  plus_less [] no_unit w l = refl
  plus_less (y ∷ ys) no_unit w l = absurd (omega arith)
  plus_less [] (and_unit h u) w l = absurd (omega arith)
  plus_less (y ∷ ys) (and_unit {d} {e} h u) w l = cons_eq (word_forth d e y h w) (plus_less ys u w (omega arith))

  -- ---- no zero

  module _ (D : List ℕ) (u : Units p D (inverses p D)) (g : (1 + sum (inverses p D)) * inverse p ((1 + sum (inverses p D)) % p) ≈⟨ p ⟩ 1) where
    abbrev undone_by_sum : List ℕ → List ℕ
    undone_by_sum ys = uninternal_by_sum p (inverses p D) (inverse p ((1 + sum (inverses p D)) % p)) ys

    sum_back : (xs : List ℕ) → length xs ≡ length D → undone_by_sum (internal p D xs) ≡ residues p xs
    unfolding same? internal uninternal_by_sum
    sum_back xs l =
        let es : List ℕ = inverses p D in
        let k : ℕ = inverse p ((1 + sum es) % p) in
        less_plus xs u
        (ring_by p (dot es (internal p D xs) ∷ k ∷ sum xs ∷ sum es ∷ []) (var 0 ⊗ var 1) (var 2)
        (by (var 1) (var 0) (var 2 ⊗ var 3 ⊕ var 2) (dot-plus_multiples (sum xs) xs u l) (by (var 2) ((num 1 ⊕ var 3) ⊗ var 1) (num 1) g nothing)) pos tt)
        l

    sum-forth : (ys : List ℕ) → length ys ≡ length D → internal p D (undone_by_sum ys) ≡ residues p ys
    unfolding same? internal uninternal_by_sum
    sum-forth ys l =
        let es : List ℕ = inverses p D in
        let k : ℕ = inverse p ((1 + sum es) % p) in
        plus_less ys u
        (ring_by p (sum (undone_by_sum ys) ∷ dot es ys ∷ k ∷ sum es ∷ []) (var 0) (var 1 ⊗ var 2)
        (by (num 1) (var 0 ⊕ var 1 ⊗ var 2 ⊗ var 3) (var 1) (sum-multiples_less (dot es ys * k) es ys (l ∙ sym (units_length u)))
        (by (neg (var 1)) ((num 1 ⊕ var 3) ⊗ var 2) (num 1) g nothing)) pos tt)
        l

    pub undo_by_sum : {t : ℕ} → length D ≡ t → Undo p t (internal p D) undone_by_sum
    undo_by_sum e = record {
      to = λ xs s. internal_state D xs s.width;
      from = λ ys s. by_sum_state (inverses p D) _ ys s.width;
      back = λ xs s. sum_back xs (s.width ∙ sym e) ∙ state_words s;
      forth = λ ys s. sum-forth ys (s.width ∙ sym e) ∙ state_words s;
    }

  -- ---- one zero

  -- M_I leaves the sum at its place
  image_at_zero : (s : ℕ) {z : ℕ} {D es : List ℕ} (xs : List ℕ) → OneZero p z D es → length xs ≡ length D → get_or (plus_multiples p s D xs) z 0 ≡ s % p
  unfolding plus_multiples
  image_at_zero s [] o l = absurd (omega (arith, place_inside o))
  image_at_zero s (x ∷ xs) (zero_here u) l = ap (λ (n : ℕ). (s + n) % p) (zero-mul x) ∙ ap (λ (n : ℕ). n % p) (add-zero s)
  image_at_zero s (x ∷ xs) (zero_later h o) l = image_at_zero s xs o (omega arith)

  -- and the word there is not found
  no_word : (s : ℕ) {z : ℕ} {D es : List ℕ} (ys : List ℕ) → OneZero p z D es → get_or (multiples_less p s es ys) z 0 ≡ 0
  unfolding multiples_less mul
  no_word s [] o = refl
  no_word s (y ∷ ys) (zero_here u) = ap (λ (n : ℕ). n % p) (zero-mul (sub p y s)) ∙ zero-mod p
  no_word s (y ∷ ys) (zero_later h o) = no_word s ys o

  others_back : {s w z : ℕ} {D es : List ℕ} (xs : List ℕ) → OneZero p z D es → w ≈⟨ p ⟩ s → length xs ≡ length D
      → multiples_less p w es (plus_multiples p s D xs) ≡ set (residues p xs) z 0
  unfolding multiples_less plus_multiples residues mul
  others_back [] o w l = absurd (omega (arith, place_inside o))
  others_back {s} {w} (x ∷ xs) (zero_here u) h l =
      cons_eq (ap (λ (n : ℕ). n % p) (zero-mul (sub p ((s + 0 * x) % p) w)) ∙ zero-mod p) (less_plus xs u h (omega arith))
  others_back (x ∷ xs) (zero_later {z} {d} {e} g o) h l = cons_eq (word_back d e x g h) (others_back xs o h (omega arith))

  others_forth : {s w z : ℕ} {D es : List ℕ} (r : ℕ) (ys : List ℕ) → OneZero p z D es → w ≈⟨ p ⟩ s → s ≡ get_or ys z 0 → length ys ≡ length D
      → plus_multiples p w D (set (multiples_less p s es ys) z r) ≡ residues p ys
  unfolding multiples_less plus_multiples residues
  others_forth r [] o w e l = absurd (omega (arith, place_inside o))
  others_forth {s} {w} r (y ∷ ys) (zero_here u) h e l =
      cons_eq (ap (λ (n : ℕ). (w + n) % p) (zero-mul r) ∙ ap (λ (n : ℕ). n % p) (add-zero w) ∙ h.same ∙ ap (λ (n : ℕ). n % p) e) (plus_less ys u h (omega arith))
  others_forth r (y ∷ ys) (zero_later {z} {d} {e} g o) h f l = cons_eq (word_forth d e y g h) (others_forth r ys o h f (omega arith))

  module _ {z : ℕ} (D : List ℕ) {es : List ℕ} (o : OneZero p z D es) where
    zero_back : (xs : List ℕ) → Words p xs → length xs ≡ length D → uninternal_at_zero p z es (internal p D xs) ≡ xs
    unfolding same? internal uninternal_at_zero sub
    zero_back xs w l =
        let s : ℕ = sum xs in
        let y : ℕ = get_or (internal p D xs) z 0 in
        let there : z < length xs = omega (arith, place_inside o) in
        let first : y ≡ s % p = image_at_zero s xs o l in
        let others : multiples_less p y es (internal p D xs) ≡ set xs z 0 =
        others_back xs o (trans≈ (eq≈ first) (mod≈ s)) l ∙ ap (λ (l : List ℕ). set l z 0) (residues_words xs w) in
        let rest : sum (set xs z 0) + get_or xs z 0 ≡ s = sum-set xs z 0 there ∙ add-zero s in
        let word : sub p y (sum (set xs z 0)) ≡ get_or xs z 0 =
        rest≈ (w.at z)
        (ring_by p (y ∷ s ∷ sum (set xs z 0) ∷ get_or xs z 0 ∷ []) (var 0 ⊕ neg (var 2)) (var 3)
        (by (num 1) (var 0) (var 1) (trans≈ (eq≈ first) (mod≈ s)) (by (neg (num 1)) (var 2 ⊕ var 3) (var 1) (eq≈ rest) nothing)) pos tt) in
        ap (λ (q : List ℕ). set q z (sub p y (sum q))) others ∙ set-set xs z 0 _ ∙ ap (set xs z) word ∙ set-get_or xs z 0

    zero_forth : (ys : List ℕ) → length ys ≡ length D → internal p D (uninternal_at_zero p z es ys) ≡ residues p ys
    unfolding same? internal uninternal_at_zero sub
    zero_forth ys l =
        let s : ℕ = get_or ys z 0 in
        let q : List ℕ = multiples_less p s es ys in
        let r : ℕ = sub p s (sum q) in
        let there : z < length q = omega (arith, place_inside o, multiples_less-length p s es ys) in
        let total : sum (set q z r) ≡ sum q + r = sym (add-zero _) ∙ ap (λ (n : ℕ). sum (set q z r) + n) (sym (no_word s ys o)) ∙ sum-set q z r there in
        let same : sum (set q z r) ≈⟨ p ⟩ s =
        trans≈ (eq≈ total) (ring p (s ∷ sum q ∷ []) (var 1 ⊕ rem (var 0 ⊕ neg (var 1))) (var 0) pos tt) in
        others_forth r ys o same refl l

    pub undo_at_zero : {t : ℕ} → length D ≡ t → Undo p t (internal p D) (uninternal_at_zero p z es)
    undo_at_zero e = record {
      to = λ xs s. internal_state D xs s.width;
      from = λ ys s. at_zero_state z es ys s.width;
      back = λ xs s. zero_back xs s.words (s.width ∙ sym e);
      forth = λ ys s. zero_forth ys (s.width ∙ sym e) ∙ state_words s;
    }

-- M_I and its inverse, for any accepted D
pub undo_internal : {p : ℕ} → Inverses p → 3 < p → (t : ℕ) (D : List ℕ) → AcceptedDiagonal p t D → Undo p t (internal p D) (uninternal p D)
unfolding uninternal
undo_internal {p} I above t D a = of (zeros D) refl
  where
    pos : 0 < p
    pos = omega arith

    of : (n : ℕ) → zeros D ≡ n → Undo p t (internal p D) (uninternal p D)
    of zero z =
        let u : Units p D (inverses p D) = inverses_units I above D a.words (λ i h. nonzero_at D i z h) in
        undo_same (λ xs s. refl) (λ ys s. rw (eq-eqb (zeros D) 0 z) refl)
        (undo_by_sum pos D u (unit I above (1 + sum (inverses p D)) (a.sum_nonzero z)) a.width)
    of (suc n) z =
        let one : zeros D ≡ 1 = omega (arith, a.few_zeros) in
        let some : zeros D ≢ 0 = λ e. absurd (omega arith) in
        undo_same (λ xs s. refl) (λ ys s. rw (ne_eqb (zeros D) 0 some) refl) (undo_at_zero pos D (one_zero I above D a.words one) a.width)
