-- M_E as code makes it, by its halves: the sums and M4 block by block, on numbers that stay below p, and the one after the other.
use mathlib.Core.Path.{◌≡◌, refl, sym, ap, ap₂, ◌∙◌}
use mathlib.Core.Logic.{◌≢◌, inl, inr}
use mathlib.Core.List.{List, [], ◌∷◌, map}
use Prim.Native.Nat.{ℕ, zero, suc, ◌+◌, ◌*◌, ◌/◌, ◌%◌, ◌<◌, ◌≤◌}
use native.Mathlib.Nat.{add-zero, zero-add, add_assoc, mod-eq_of_lt}
use native.Mathlib.Omega.{arith}
use lib.ListN.{get_or, drop}
use Rattle.modular.specs.Arithmetic.{add}
use Rattle.modular.proofs.Congruence.{refl≈, mod≈, add≈}
use Rattle.poseidon2.specs.Layers.{add_lists, rows_times, m4_rows, m4, blocks, join_blocks, sum_blocks, add_to_each, mixed, external, sums, m4_blocks}
use Rattle.poseidon2.specs.Residues.{residues}
use Rattle.poseidon2.specs.Statements.{Width}
use Rattle.poseidon2.proofs.Words.{add_lists_right}
use Rattle.poseidon2.proofs.SumsFirst.{sums_then_m4_lem, block_alone}
use Rattle.blocks.specs.Blocks.{four, flat_from, flat}
use Rattle.blocks.specs.Halves.{half, exact_m4, plus, total, joins, Within, AllWithin}
use Rattle.blocks.proofs.Lists.{four_eq, append_eq}
use Rattle.blocks.proofs.Each.{flat_by, flat_length}
use Rattle.blocks.proofs.Halves.{parts_of, external_joined}

-- ---- blocks that are within a bound

pub width_of : {n : ℕ} → 1 ≤ n → n ≤ 3 → Width (4 * n)
width_of {n = zero} h k = absurd (omega arith)
width_of {n = suc zero} h k = inl refl
width_of {n = suc (suc zero)} h k = inr (inl refl)
width_of {n = suc (suc (suc zero))} h k = inr (inr refl)
width_of {n = suc (suc (suc (suc n)))} h k = absurd (omega arith)

pub within_more : {m n : ℕ} {b : List ℕ} → m ≤ n → Within m b → Within n b
within_more h w = record { at0 = omega (arith, w.at0); at1 = omega (arith, w.at1); at2 = omega (arith, w.at2); at3 = omega (arith, w.at3) }

pub plus_within : {m n : ℕ} {a b : List ℕ} → Within m a → Within n b → Within (m + n) (plus a b)
plus_within u v = record {
  at0 = omega (arith, u.at0, v.at0);
  at1 = omega (arith, u.at1, v.at1);
  at2 = omega (arith, u.at2, v.at2);
  at3 = omega (arith, u.at3, v.at3);
}

module _ (p : ℕ) where
  within_words : {n : ℕ} (b : List ℕ) → n < p → Within n b → residues p (four b) ≡ four b
  unfolding residues
  within_words b h w =
      four_eq (mod-eq_of_lt (omega (arith, h, w.at0))) (mod-eq_of_lt (omega (arith, h, w.at1)))
      (mod-eq_of_lt (omega (arith, h, w.at2))) (mod-eq_of_lt (omega (arith, h, w.at3)))

  -- ---- the sums

  plus_residues : (x y : List ℕ) → residues p (plus x y) ≡ add_lists p (four x) (four y)
  unfolding residues add_lists add
  plus_residues x y = refl

  -- to add a sum of zeros and S is to add S
  from_none : (x S : List ℕ) → add_lists p (four x) (add_lists p (0 ∷ 0 ∷ 0 ∷ 0 ∷ []) S) ≡ add_lists p (four x) S
  unfolding add_lists add
  from_none x S =
      four_eq (word (get_or x 0 0) (get_or S 0 0)) (word (get_or x 1 0) (get_or (drop 1 S) 0 0)) (word (get_or x 2 0) (get_or (drop 1 (drop 1 S)) 0 0))
      (word (get_or x 3 0) (get_or (drop 1 (drop 1 (drop 1 S))) 0 0))
    where
      word : (a b : ℕ) → (a + (0 + b) % p) % p ≡ (a + b) % p
      word a b = (add≈ (refl≈ {a = a}) (mod≈ (0 + b))).same ∙ ap (λ (n : ℕ). (a + n) % p) (zero-add b)

  -- one block more
  one_more : (q x S : List ℕ) → add_lists p (four q) (add_lists p (four x) S) ≡ add_lists p (four (plus q x)) S
  unfolding add_lists add
  one_more q x S =
      four_eq (word (get_or q 0 0) (get_or x 0 0) (get_or S 0 0)) (word (get_or q 1 0) (get_or x 1 0) (get_or (drop 1 S) 0 0))
      (word (get_or q 2 0) (get_or x 2 0) (get_or (drop 1 (drop 1 S)) 0 0)) (word (get_or q 3 0) (get_or x 3 0) (get_or (drop 1 (drop 1 (drop 1 S))) 0 0))
    where
      word : (a b c : ℕ) → (a + (b + c) % p) % p ≡ (a + b + c) % p
      word a b c = (add≈ (refl≈ {a = a}) (mod≈ (b + c))).same ∙ ap (λ (n : ℕ). n % p) (sym (add_assoc a b c))

  -- the sum of i blocks and of m after them
  total_from : (bs : List (List ℕ)) (m i : ℕ) → add_lists p (four (total i bs)) (sum_blocks p (blocks (flat_from i m bs))) ≡ residues p (four (total (i + m) bs))
  unfolding sum_blocks blocks add_lists residues add
  total_from bs zero i = add_zeros (total i bs) ∙ ap (λ (k : ℕ). residues p (four (total k bs))) (sym (add-zero i))
    where
      add_zeros : (q : List ℕ) → add_lists p (four q) (0 ∷ 0 ∷ 0 ∷ 0 ∷ []) ≡ residues p (four q)
      add_zeros q = cc (add-zero (get_or q 0 0), add-zero (get_or q 1 0), add-zero (get_or q 2 0), add-zero (get_or q 3 0))
  total_from bs (suc m) i =
      let n : suc i + m ≡ i + suc m = omega arith in
      one_more (total i bs) (get_or bs i []) (sum_blocks p (blocks (flat_from (suc i) m bs))) ∙ total_from bs m (suc i) ∙ ap (λ (k : ℕ). residues p (four (total k bs))) n

  -- a block r with the sum of all added
  block_summed : {m : ℕ} (n : ℕ) (bs : List (List ℕ)) (x r : List ℕ) → m < p → r ≡ plus x (total n bs) → Within m r
      → four r ≡ add_lists p (four x) (sum_blocks p (blocks (flat n bs)))
  block_summed n bs x r h e w =
      let S = sum_blocks p (blocks (flat n bs)) in
      let z : 0 + n ≡ n = zero-add n in
      sym (within_words r h w) ∙ ap (λ (b : List ℕ). residues p (four b)) e ∙ plus_residues x (total n bs)
      ∙ sym (add_lists_right p (four x) (four (total n bs)))
      ∙ ap (λ (k : ℕ). add_lists p (four x) (residues p (four (total k bs)))) (sym z)
      ∙ ap (add_lists p (four x)) (sym (total_from bs n 0)) ∙ from_none x S

  pub sums_all : {m : ℕ} (n : ℕ) (xs rs : List (List ℕ)) → m < p → n ≢ 1 → ((k : ℕ) → k < n → get_or rs k [] ≡ plus (get_or xs k []) (total n xs))
      → AllWithin m n rs → flat n rs ≡ sums p (flat n xs)
  unfolding sums mixed blocks join_blocks add_to_each
  sums_all zero xs rs h ne e w = refl
  sums_all (suc zero) xs rs h ne e w = absurd (ne refl)
  sums_all (suc (suc n)) xs rs h ne e w =
      let S = sum_blocks p (blocks (flat (suc (suc n)) xs)) in
      flat_by (suc (suc n)) (λ i m. flat_from i m rs ≡ join_blocks (add_to_each p S (blocks (flat_from i m xs)))) (λ i. refl)
      (λ i m b f. append_eq (block_summed (suc (suc n)) xs (get_or xs i []) (get_or rs i []) h (e i b) (w.at i b)) f)

  pub sums_alone : (xs : List (List ℕ)) → sums p (flat 1 xs) ≡ flat 1 xs
  sums_alone xs = block_alone p (flat 1 xs) refl

  -- ---- M4 in each block

  m4_block : {m : ℕ} (x r : List ℕ) → m < p → r ≡ exact_m4 (four x) → Within m r → four r ≡ m4 p (four x)
  unfolding residues exact_m4 m4 rows_times m4_rows
  m4_block x r h e w = sym (within_words r h w) ∙ ap (λ (b : List ℕ). residues p (four b)) e

  pub m4_all : {m : ℕ} (n : ℕ) (xs rs : List (List ℕ)) → m < p → ((k : ℕ) → k < n → get_or rs k [] ≡ exact_m4 (four (get_or xs k [])))
      → AllWithin m n rs → flat n rs ≡ m4_blocks p (flat n xs)
  unfolding m4_blocks join_blocks blocks
  m4_all n xs rs h e w =
      flat_by n (λ i m. flat_from i m rs ≡ m4_blocks p (flat_from i m xs)) (λ i. refl)
      (λ i m b f. append_eq (m4_block (get_or xs i []) (get_or rs i []) h (e i b) (w.at i b)) f)

  -- ---- the layer, of the high halves and of the low ones

  pub external_all : 0 < p → {n : ℕ} → 1 ≤ n → n ≤ 3 → (xs rs : List (List ℕ)) {a b h l hs ls : List ℕ}
      → hs ≡ map (λ n. n / half) (flat n xs) → a ≡ sums p hs → h ≡ m4_blocks p a
      → ls ≡ map (λ n. n % half) (flat n xs) → b ≡ sums p ls → l ≡ m4_blocks p b
      → residues p (flat n rs) ≡ residues p (joins h l) → residues p (flat n rs) ≡ external p (flat n xs)
  external_all pos {n} some few xs rs {a} {b} {h} {l} {hs} {ls} d e f g i j k =
      let high : h ≡ external p (map (λ n. n / half) (flat n xs)) = f ∙ ap (m4_blocks p) e ∙ sums_then_m4_lem p hs ∙ ap (external p) d in
      let low : l ≡ external p (map (λ n. n % half) (flat n xs)) = j ∙ ap (m4_blocks p) i ∙ sums_then_m4_lem p ls ∙ ap (external p) g in
      external_joined p pos (width_of some few) (map (λ n. n / half) (flat n xs)) (map (λ n. n % half) (flat n xs)) (flat n xs) (flat n rs)
      (flat_length n xs) (parts_of p (flat n xs)) (k ∙ ap₂ (λ (h l : List ℕ). residues p (joins h l)) high low)
