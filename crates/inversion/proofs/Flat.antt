-- A state by its blocks of four: how it is read and written, and what is done block by block is done to the list.
use mathlib.Core.Path.{◌≡◌, refl, sym, ap, ap₂, subst, ◌∙◌}
use mathlib.Core.Logic.{◌⊎◌, inl, inr, ⊎_elim}
use mathlib.Core.List.{List, [], ◌∷◌, ◌++◌}
use Prim.Native.Nat.{ℕ, zero, suc, ◌+◌, ◌*◌, ◌-◌, ◌%◌, ◌<◌, ◌≤◌}
use native.Mathlib.Nat.{add-zero}
use native.Mathlib.Omega.{arith}
use lib.ListN.{length, get_or, take, drop}
use Rattle.std.specs.Simd.{first_chunks}
use Rattle.modular.specs.Arithmetic.{add}
use Rattle.modular.proofs.Congruence.{refl≈, mod≈, add≈}
use Rattle.poseidon2.specs.Layers.{add_lists, blocks, join_blocks, sum_blocks, add_to_each}
use Rattle.poseidon2.specs.Inverse.{sub_lists, unm4}
use Rattle.poseidon2.specs.Statements.{Width, Words}
use Rattle.poseidon2.proofs.Words.{words_tail, words_take}
use Rattle.blocks.specs.Blocks.{four, flat_from, flat}
use Rattle.blocks.proofs.Lists.{four_eq, append_eq}
use Rattle.inversion.proofs.Blocks.{each, add-zeros}
use Rattle.inversion.proofs.Written.{Written, written_more, less_more}

-- block k
abbrev pub block : List (List ℕ) → ℕ → List ℕ
block bs k = four (get_or bs k [])

-- ---- read and written

flat_shift : (i n : ℕ) (b : List ℕ) (bs : List (List ℕ)) → flat_from (suc i) n (b ∷ bs) ≡ flat_from i n bs
flat_shift i zero b bs = refl
flat_shift i (suc n) b bs = ap (λ (ys : List ℕ). block bs i ++ ys) (flat_shift (suc i) n b bs)

pub flat_chunks : (n : ℕ) (xs : List ℕ) → length xs ≡ 4 * n → flat n (first_chunks 4 n xs) ≡ xs
flat_chunks zero [] l = refl
flat_chunks zero (a ∷ xs) l = absurd (omega arith)
flat_chunks (suc n) [] l = absurd (omega arith)
flat_chunks (suc n) (a ∷ []) l = absurd (omega arith)
flat_chunks (suc n) (a ∷ b ∷ []) l = absurd (omega arith)
flat_chunks (suc n) (a ∷ b ∷ c ∷ []) l = absurd (omega arith)
flat_chunks (suc n) (a ∷ b ∷ c ∷ d ∷ xs) l =
    ap (λ (ys : List ℕ). a ∷ b ∷ c ∷ d ∷ ys)
    (flat_shift 0 n (a ∷ b ∷ c ∷ d ∷ []) (first_chunks 4 n xs) ∙ flat_chunks n xs (omega arith))

flat_end : (i n : ℕ) (bs : List (List ℕ)) → flat_from i (suc n) bs ≡ flat_from i n bs ++ block bs (i + n)
flat_end i zero bs = ap (λ (k : ℕ). block bs k) (sym (add-zero i))
flat_end i (suc n) bs =
    let e : suc i + n ≡ i + suc n = omega arith in
    ap (λ (ys : List ℕ). block bs i ++ ys) (flat_end (suc i) n bs ∙ ap (λ (k : ℕ). flat_from (suc i) n bs ++ block bs k) e)

-- the blocks before block i are written
pub written_block : {n i : ℕ} {st : List ℕ} (bs : List (List ℕ)) (next : List ℕ) → Written (4 * n) (4 * i) (flat i bs) st → i < n
    → next ≡ take (4 * i) st ++ block bs i ++ drop (4 * i + 4) st → Written (4 * n) (4 * (i + 1)) (flat (i + 1) bs) next
written_block {n} {i} bs next w h e =
    let more : Written (4 * n) (4 * i + 4) (flat i bs ++ block bs i) next = written_more (block bs i) next w refl (omega arith) e in
    let place : 4 * i + 4 ≡ 4 * (i + 1) = omega arith in
    let one : suc i ≡ i + 1 = omega arith in
    let zero_first : 0 + i ≡ i = omega arith in
    let all : flat i bs ++ block bs i ≡ flat (i + 1) bs = ap (λ (k : ℕ). flat i bs ++ block bs k) (sym zero_first) ∙ sym (flat_end 0 i bs) ∙ ap (λ (k : ℕ). flat k bs) one in
    subst (λ (k : ℕ). Written (4 * n) k (flat (i + 1) bs) next) place (subst (λ (xs : List ℕ). Written (4 * n) (4 * i + 4) xs next) all more)

length-from : (i n : ℕ) (bs : List (List ℕ)) → length (flat_from i n bs) ≡ 4 * n
length-from i zero bs = refl
length-from i (suc n) bs = omega (arith, length-from (suc i) n bs)

pub length-flat : (n : ℕ) (bs : List (List ℕ)) → length (flat n bs) ≡ 4 * n
length-flat n bs = length-from 0 n bs

-- two blocks or three
pub several : {n : ℕ} → Width (4 * n) → (n ≡ 1 → ⊥) → (n ≡ 2) ⊎ (n ≡ 3)
several {n} w h = ⊎_elim (λ e. absurd (h (omega arith))) (λ w'. ⊎_elim (λ e. inl (omega arith)) (λ e. inr (omega arith)) w') w

-- ---- words

module _ {p : ℕ} (pos : 0 < p) (bs : List (List ℕ)) where
  words_from : (i n : ℕ) → Words p (flat_from i n bs) → (k : ℕ) → k < n → Words p (block bs (i + k))
  words_from i zero w k h = absurd (omega arith)
  words_from i (suc n) w zero h =
      let e : i ≡ i + zero = omega arith in
      subst (λ (m : ℕ). Words p (block bs m)) e (words_take pos 4 (flat_from i (suc n) bs) w)
  words_from i (suc n) w (suc k) h =
      let e : suc i + k ≡ i + suc k = omega arith in
      subst (λ (m : ℕ). Words p (block bs m)) e (words_from (suc i) n (words_tail (words_tail (words_tail (words_tail w)))) k (omega arith))

  pub words_at : (n : ℕ) → Words p (flat n bs) → (k : ℕ) → k < n → Words p (block bs k)
  words_at n w k h =
      let e : 0 + k ≡ k = omega arith in
      subst (λ (m : ℕ). Words p (block bs m)) e (words_from 0 n w k h)

-- ---- the sum of the blocks, from the first on

-- n blocks from block i on
abbrev pub fours : ℕ → ℕ → List (List ℕ) → List (List ℕ)
fours i zero bs = []
fours i (suc n) bs = block bs i ∷ fours (suc i) n bs

blocks_flat : (i n : ℕ) (bs : List (List ℕ)) → blocks (flat_from i n bs) ≡ fours i n bs
unfolding blocks
blocks_flat i zero bs = refl
blocks_flat i (suc n) bs = ap (λ (cs : List (List ℕ)). block bs i ∷ cs) (blocks_flat (suc i) n bs)

module _ (p : ℕ) where
  add-assoc : (x y s : ℕ) → add p (add p x y) s ≡ add p x (add p y s)
  unfolding add
  add-assoc x y s =
      let e : x + y + s ≡ x + (y + s) = omega arith in
      (add≈ (mod≈ {p = p} (x + y)) (refl≈ {a = s})).same ∙ ap (λ (n : ℕ). n % p) e ∙ sym (add≈ (refl≈ {p = p} {a = x}) (mod≈ (y + s))).same

  add_lists-assoc : (a b s : List ℕ) → add_lists p (add_lists p (four a) (four b)) s ≡ add_lists p (four a) (add_lists p (four b) s)
  unfolding add_lists
  add_lists-assoc a b s = four_eq (add-assoc _ _ _) (add-assoc _ _ _) (add-assoc _ _ _) (add-assoc _ _ _)

  add_none : (a : List ℕ) → Words p (four a) → add_lists p (four a) (0 ∷ 0 ∷ 0 ∷ 0 ∷ []) ≡ four a
  unfolding add_lists
  add_none a w = four_eq (add-zeros _ (w.at 0)) (add-zeros _ (w.at 1)) (add-zeros _ (w.at 2)) (add-zeros _ (w.at 3))

  -- the total of the blocks before block i
  pub record Total (n : ℕ) (bs : List (List ℕ)) (i : ℕ) (total : List ℕ) : Type 0 where
    pub with_rest : add_lists p (four total) (sum_blocks p (fours i (n - i) bs)) ≡ sum_blocks p (blocks (flat n bs))
    pub words : Words p (four total)

  pub total_first : (n : ℕ) (bs : List (List ℕ)) → 0 < n → Words p (block bs 0) → Total n bs 1 (get_or bs 0 [])
  unfolding sum_blocks
  total_first zero bs h w = absurd (omega arith)
  total_first (suc n) bs h w =
      let e : suc n - 1 ≡ n = omega arith in
      record {
        with_rest = ap (λ (m : ℕ). add_lists p (block bs 0) (sum_blocks p (fours 1 m bs))) e ∙ sym (ap (sum_blocks p) (blocks_flat 0 (suc n) bs));
        words = w;
      }

  pub total_more : {n : ℕ} {bs : List (List ℕ)} {i : ℕ} {total : List ℕ} (next : List ℕ) → Total n bs i total → i < n → Words p (four next)
      → four next ≡ add_lists p (four total) (block bs i) → Total n bs (i + 1) next
  unfolding sum_blocks
  total_more {n} {bs} {i} {total} next t h w e =
      let rest : n - i ≡ suc (n - (i + 1)) = omega arith in
      let one : i + 1 ≡ suc i = omega arith in
      record {
        with_rest =
            ap₂ (λ (xs : List ℕ) (j : ℕ). add_lists p xs (sum_blocks p (fours j (n - (i + 1)) bs))) e one
            ∙ add_lists-assoc total (get_or bs i []) (sum_blocks p (fours (suc i) (n - (i + 1)) bs))
            ∙ ap (λ (m : ℕ). add_lists p (four total) (sum_blocks p (fours i m bs))) (sym rest)
            ∙ t.with_rest;
        words = w;
      }

  pub total_all : {n : ℕ} {bs : List (List ℕ)} {i : ℕ} {total : List ℕ} → Total n bs i total → n ≤ i → four total ≡ sum_blocks p (blocks (flat n bs))
  unfolding sum_blocks
  total_all {n} {bs} {i} {total} t h =
      let none : 0 ≡ n - i = omega arith in
      sym (add_none total t.words) ∙ ap (λ (m : ℕ). add_lists p (four total) (sum_blocks p (fours i m bs))) none ∙ t.with_rest

-- ---- M4 undone in each block, with s added before

-- block k of rs is that of bs with s added and M4 undone
abbrev pub UndoneAt : ℕ → List ℕ → List (List ℕ) → List (List ℕ) → ℕ → Type 0
UndoneAt p s bs rs k = block rs k ≡ unm4 p (add_lists p (block bs k) s)

each_from : (p : ℕ) (s : List ℕ) (bs rs : List (List ℕ)) (i n : ℕ) → ((k : ℕ) → k < i + n → UndoneAt p s bs rs k) → flat_from i n rs ≡ each p s (flat_from i n bs)
unfolding blocks join_blocks add_to_each
each_from p s bs rs i zero h = refl
each_from p s bs rs i (suc n) h = append_eq (h i (omega arith)) (each_from p s bs rs (suc i) n (λ k m. h k (omega arith)))

pub each_flat : (p : ℕ) (s : List ℕ) (bs rs : List (List ℕ)) (n : ℕ) → ((k : ℕ) → k < n → UndoneAt p s bs rs k) → flat n rs ≡ each p s (flat n bs)
each_flat p s bs rs n h = each_from p s bs rs 0 n (λ k m. h k (omega arith))

-- ---- the constants C from place `at` on taken off

abbrev pub LessAt : ℕ → List ℕ → ℕ → List (List ℕ) → List (List ℕ) → ℕ → Type 0
LessAt p C at bs rs k = block rs k ≡ sub_lists p (block bs k) (drop (at + 4 * k) C)

less_from : (p : ℕ) (C : List ℕ) (at : ℕ) (bs rs : List (List ℕ)) (i n : ℕ) → ((k : ℕ) → k < i + n → LessAt p C at bs rs k)
    → flat_from i n rs ≡ sub_lists p (flat_from i n bs) (drop (at + 4 * i) C)
unfolding sub_lists
less_from p C at bs rs i zero h = refl
less_from p C at bs rs i (suc n) h =
    let next : at + 4 * suc i ≡ at + 4 * i + 4 = omega arith in
    append_eq (h i (omega arith))
    (less_from p C at bs rs (suc i) n (λ k m. h k (omega arith)) ∙ ap (λ (m : ℕ). sub_lists p (flat_from (suc i) n bs) (drop m C)) next)
    ∙ less_more p (get_or bs i []) (flat_from (suc i) n bs) C (at + 4 * i)

pub less_flat : (p : ℕ) (C : List ℕ) (at : ℕ) (bs rs : List (List ℕ)) (n : ℕ) → ((k : ℕ) → k < n → LessAt p C at bs rs k)
    → flat n rs ≡ sub_lists p (flat n bs) (drop at C)
less_flat p C at bs rs n h =
    let first : at + 4 * 0 ≡ at = omega arith in
    less_from p C at bs rs 0 n (λ k m. h k (omega arith)) ∙ ap (λ (m : ℕ). sub_lists p (flat n bs) (drop m C)) first
