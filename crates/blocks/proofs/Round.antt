-- A partial round as code makes it, for any width.
use mathlib.Core.Path.{◌≡◌, refl, sym, ap, ◌∙◌}
use mathlib.Core.List.{List, [], ◌∷◌, ◌++◌}
use Prim.Native.Nat.{ℕ, zero, suc, ◌+◌, ◌*◌, ◌%◌, ◌^◌, ◌<◌, ◌≤◌}
use native.Mathlib.Nat.{add-zero, mod-mod}
use native.Mathlib.Omega.{arith}
use lib.ListN.{length, get_or, take, drop}
use Rattle.modular.specs.Arithmetic.{add, pow}
use Rattle.modular.specs.Congruence.{◌≈⟨◌⟩◌}
use Rattle.modular.proofs.Congruence.{refl≈, eq≈, sym≈, trans≈, mod≈, add≈, mul≈, pow≈}
use Rattle.modular.proofs.Ring.{var, num, ◌⊕◌, ◌⊗◌, exact?, ringℕ}
use Rattle.poseidon2.specs.Layers.{add_lists, sum, plus_multiples}
use Rattle.poseidon2.specs.Rounds.{add_constants, raise_first, partial_round}
use Rattle.poseidon2.specs.Residues.{residues}
use Rattle.poseidon2.proofs.Words.{cons_eq}
use Rattle.poseidon2.proofs.Places.{plus_multiples_at, plus_multiples-at, internal_at}
use Rattle.blocks.specs.Blocks.{four, flat_from, flat}
use Rattle.blocks.proofs.Each.{flat_length}
use Rattle.blocks.proofs.Lists.{four_eq, append_eq}

first_law : (d w s c : ℕ) → s + c + (d + 1) * w ≡ w + s + d * w + c
unfolding exact?
first_law d w s c = ringℕ (d ∷ w ∷ s ∷ c ∷ []) (var 2 ⊕ var 3 ⊕ (var 0 ⊕ num 1) ⊗ var 1) (var 1 ⊕ var 2 ⊕ var 0 ⊗ var 1 ⊕ var 3) tt

-- the blocks behind word 0's, in a state of n
blocks_behind : (p q : ℕ) (D : List ℕ) (n : ℕ) (bs rs : List (List ℕ))
    → ((k : ℕ) → 0 < k → k < n → residues p (four (get_or rs k [])) ≡ plus_multiples p q (drop (4 * k) D) (four (get_or bs k [])))
    → (m i : ℕ) → 0 < i → i + m ≡ n → residues p (flat_from i m rs) ≡ plus_multiples_at p q D (4 * i) (flat_from i m bs)
unfolding residues
blocks_behind p q D n bs rs h zero i s e = refl
blocks_behind p q D n bs rs h (suc m) i s e =
    let k : 4 * suc i ≡ suc (suc (suc (suc (4 * i)))) = omega arith in
    append_eq (h i s (omega arith) ∙ plus_multiples-at p q D (4 * i) (four (get_or bs i [])))
    (blocks_behind p q D n bs rs h m (suc i) (omega arith) (omega arith) ∙ ap (λ (j : ℕ). plus_multiples_at p q D j (flat_from (suc i) m bs)) k)

pub multiples_all : (p q : ℕ) (D : List ℕ) (n : ℕ) (bs rs : List (List ℕ)) (first : List ℕ) → 1 ≤ n → get_or rs 0 [] ≡ first
    → ((k : ℕ) → 0 < k → k < n → residues p (four (get_or rs k [])) ≡ plus_multiples p q (drop (4 * k) D) (four (get_or bs k [])))
    → residues p (flat n rs) ≡ residues p (four first) ++ plus_multiples p q (drop 4 D) (drop 4 (flat n bs))
unfolding residues
multiples_all p q D zero bs rs first n f h = absurd (omega arith)
multiples_all p q D (suc m) bs rs first n f h =
    append_eq (ap (λ (x : List ℕ). residues p (four x)) f)
    (blocks_behind p q D (suc m) bs rs h m 1 (omega arith) (omega arith) ∙ sym (plus_multiples-at p q D 4 (flat_from 1 m bs)))

module _ {p : ℕ} where
  -- nothing is added to the words after word 0
  rest_law : {s q : ℕ} → q ≈⟨ p ⟩ s → (D : List ℕ) (i : ℕ) (xs : List ℕ) → plus_multiples_at p q D i xs ≡ add_lists p (plus_multiples_at p s D i xs) []
  unfolding add_lists add
  rest_law h D i [] = refl
  rest_law {s} h D i (x ∷ xs) =
      cons_eq ((add≈ h (refl≈ {a = get_or D i 0 * x})).same ∙ sym (mod-mod (s + get_or D i 0 * x) p) ∙ ap (λ (y : ℕ). y % p) (sym (add-zero ((s + get_or D i 0 * x) % p))))
      (rest_law h D (suc i) xs)

  -- w stands for the power of word 0, r is the sum of the others, t has the next constant too, q is the sum of all, y the next word 0
  pub partial_code : {w r q t e y : ℕ} (u c : ℕ) (D xs : List ℕ)
      → w ≈⟨ p ⟩ u ^ 7 → r ≡ sum xs % p → t ≈⟨ p ⟩ r + c → q ≈⟨ p ⟩ w + r → e ≈⟨ p ⟩ get_or D 0 0 + 1 → y ≈⟨ p ⟩ t + e * w
      → y % p ∷ plus_multiples_at p q D 1 xs ≡ add_constants p (c ∷ []) (partial_round p (take (suc (length xs)) D) 0 (u ∷ xs))
  unfolding add_constants partial_round raise_first add_lists sum pow add
  partial_code {w} {r} {q} {t} {e} {y} u c D xs hw hr ht hq he hy =
      let v = ((u + 0) % p) ^ 7 % p in
      let d = get_or D 0 0 in
      let w≈ : w ≈⟨ p ⟩ v = trans≈ hw (sym≈ (trans≈ (mod≈ (((u + 0) % p) ^ 7)) (pow≈ (trans≈ (mod≈ (u + 0)) (eq≈ (add-zero u))) 7))) in
      let r≈ : r ≈⟨ p ⟩ sum xs = trans≈ (eq≈ hr) (mod≈ (sum xs)) in
      let q≈ : q ≈⟨ p ⟩ v + sum xs = trans≈ hq (add≈ w≈ r≈) in
      let y≈ : y ≈⟨ p ⟩ (v + sum xs + d * v) % p + c =
      trans≈ hy (trans≈ (add≈ (trans≈ ht (add≈ r≈ (refl≈ {a = c}))) (mul≈ he w≈))
      (trans≈ (eq≈ (first_law d v (sum xs) c)) (add≈ (sym≈ (mod≈ (v + sum xs + d * v))) (refl≈ {a = c})))) in
      cons_eq y≈.same (rest_law q≈ D 1 xs)
      ∙ ap (λ (zs : List ℕ). add_lists p zs (c ∷ [])) (sym (internal_at p (suc (length xs)) D (v ∷ xs) refl))

  -- s and D from place i on times a block
  pub multiples_four : (s : ℕ) (x r D : List ℕ) (k : ℕ)
      → get_or r 0 0 ≈⟨ p ⟩ s + get_or D k 0 * get_or x 0 0
      → get_or r 1 0 ≈⟨ p ⟩ s + get_or D (k + 1) 0 * get_or x 1 0
      → get_or r 2 0 ≈⟨ p ⟩ s + get_or D (k + 2) 0 * get_or x 2 0
      → get_or r 3 0 ≈⟨ p ⟩ s + get_or D (k + 3) 0 * get_or x 3 0
      → residues p (four r) ≡ plus_multiples p s (drop k D) (four x)
  unfolding residues
  multiples_four s x r D k e f g h =
      four_eq (word (get_or x 0 0) k k refl e) (word (get_or x 1 0) (k + 1) (suc k) (omega arith) f)
      (word (get_or x 2 0) (k + 2) (suc (suc k)) (omega arith) g) (word (get_or x 3 0) (k + 3) (suc (suc (suc k))) (omega arith) h)
      ∙ sym (plus_multiples-at p s D k (four x))
    where
      word : {y : ℕ} (a i j : ℕ) → i ≡ j → y ≈⟨ p ⟩ s + get_or D i 0 * a → y % p ≡ (s + get_or D j 0 * a) % p
      word a i j n q = q.same ∙ ap (λ (m : ℕ). (s + get_or D m 0 * a) % p) n

  -- word 0's block
  partial_blocks : {w r q t e y0 y1 y2 y3 : ℕ} (c : ℕ) (D a xs rs : List ℕ)
      → w ≈⟨ p ⟩ get_or a 0 0 ^ 7 → r ≡ sum (get_or a 1 0 ∷ get_or a 2 0 ∷ get_or a 3 0 ∷ xs) % p → t ≈⟨ p ⟩ r + c → q ≈⟨ p ⟩ w + r → e ≈⟨ p ⟩ get_or D 0 0 + 1
      → y0 ≈⟨ p ⟩ t + e * w → y1 ≈⟨ p ⟩ q + get_or D 1 0 * get_or a 1 0 → y2 ≈⟨ p ⟩ q + get_or D 2 0 * get_or a 2 0 → y3 ≈⟨ p ⟩ q + get_or D 3 0 * get_or a 3 0
      → rs ≡ plus_multiples_at p q D 4 xs
      → y0 % p ∷ y1 % p ∷ y2 % p ∷ y3 % p ∷ rs ≡ add_constants p (c ∷ []) (partial_round p (take (4 + length xs) D) 0 (four a ++ xs))
  partial_blocks {y0 = y0} c D a xs rs hw hr ht hq he h0 h1 h2 h3 f =
      let n : suc (suc (suc (suc (length xs)))) ≡ 4 + length xs = omega arith in
      ap (λ (ys : List ℕ). y0 % p ∷ ys) (cons_eq h1.same (cons_eq h2.same (cons_eq h3.same f)))
      ∙ partial_code (get_or a 0 0) c D (get_or a 1 0 ∷ get_or a 2 0 ∷ get_or a 3 0 ∷ xs) hw hr ht hq he h0
      ∙ ap (λ (n : ℕ). add_constants p (c ∷ []) (partial_round p (take n D) 0 (four a ++ xs))) n

  -- and the blocks behind it
  pub partial_all : {w r q t e y0 y1 y2 y3 : ℕ} (c : ℕ) (D : List ℕ) (n : ℕ) (bs : List (List ℕ)) {rs : List ℕ} → 1 ≤ n
      → w ≈⟨ p ⟩ get_or (get_or bs 0 []) 0 0 ^ 7 → r ≡ sum (drop 1 (flat n bs)) % p → t ≈⟨ p ⟩ r + c → q ≈⟨ p ⟩ w + r → e ≈⟨ p ⟩ get_or D 0 0 + 1
      → y0 ≈⟨ p ⟩ t + e * w → y1 ≈⟨ p ⟩ q + get_or D 1 0 * get_or (get_or bs 0 []) 1 0
      → y2 ≈⟨ p ⟩ q + get_or D 2 0 * get_or (get_or bs 0 []) 2 0 → y3 ≈⟨ p ⟩ q + get_or D 3 0 * get_or (get_or bs 0 []) 3 0
      → rs ≡ residues p (y0 ∷ y1 ∷ y2 ∷ y3 ∷ []) ++ plus_multiples p q (drop 4 D) (drop 4 (flat n bs))
      → rs ≡ add_constants p (c ∷ []) (partial_round p (take (4 * n) D) 0 (flat n bs))
  unfolding residues
  partial_all c D zero bs n hw hr ht hq he h0 h1 h2 h3 f = absurd (omega arith)
  partial_all {q = q} c D (suc m) bs n hw hr ht hq he h0 h1 h2 h3 f =
      let xs = flat_from 1 m bs in
      let l : 4 + length xs ≡ 4 * suc m = omega (arith, flat_length (suc m) bs) in
      f ∙ partial_blocks c D (get_or bs 0 []) xs (plus_multiples p q (drop 4 D) xs) hw hr ht hq he h0 h1 h2 h3 (plus_multiples-at p q D 4 xs)
      ∙ ap (λ (n : ℕ). add_constants p (c ∷ []) (partial_round p (take n D) 0 (flat (suc m) bs))) l
