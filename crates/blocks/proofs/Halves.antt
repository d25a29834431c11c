-- M_E of numbers from that of their halves: the layer is linear, so that it may be made of the high halves and of the low ones, and joined. For
-- any number of blocks.
use mathlib.Core.Path.{◌≡◌, refl, sym, ◌∙◌}
use mathlib.Core.List.{List, [], ◌∷◌, map}
use Prim.Native.Nat.{ℕ, ◌+◌, ◌*◌, ◌/◌, ◌%◌, ◌<◌}
use native.Mathlib.Nat.{div-add-mod}
use native.Mathlib.Omega.{arith}
use lib.ListN.{length, get_or}
use Rattle.modular.specs.Arithmetic.{add}
use Rattle.modular.specs.Congruence.{◌≈⟨◌⟩◌}
use Rattle.modular.proofs.Congruence.{refl≈, eq≈, sym≈, trans≈, mod≈, add≈, mul≈}
use Rattle.modular.proofs.Ring.{var, num, ◌⊕◌, ◌⊗◌, exact?, ringℕ}
use Rattle.poseidon2.specs.Layers.{add_lists, dot, rows_times, m4_rows, m4, blocks, join_blocks, sum_blocks, add_to_each, mixed, external}
use Rattle.poseidon2.specs.Residues.{residues}
use Rattle.poseidon2.specs.Statements.{Width}
use Rattle.poseidon2.proofs.Words.{cons_eq, state_words}
use Rattle.poseidon2.proofs.External.{external_state}
use Rattle.blocks.specs.Blocks.{four, flat_from, flat}
use Rattle.blocks.specs.Halves.{half, exact_m4, joins}
use Rattle.blocks.proofs.Lists.{four_eq, append_eq}
use Rattle.blocks.proofs.Each.{flat_by}

-- ---- M4 as code adds it up

exact_m4-four : (a b c d : ℕ) → exact_m4 (a ∷ b ∷ c ∷ d ∷ [])
    ≡ (5 * a + (7 * b + (1 * c + (3 * d + 0)))) ∷ (4 * a + (6 * b + (1 * c + (1 * d + 0)))) ∷ (1 * a + (3 * b + (5 * c + (7 * d + 0)))) ∷ (1 * a + (1 * b + (4 * c + (6 * d + 0)))) ∷ []
unfolding exact_m4 dot m4_rows
exact_m4-four a b c d = refl

pub m4_sums : (a b c d : ℕ) →
    let t0 = a + b in
    let t1 = c + d in
    let t2 = 2 * b + t1 in
    let t3 = 2 * d + t0 in
    let t4 = 4 * t1 + t3 in
    let t5 = 4 * t0 + t2 in
    (t3 + t5) ∷ t5 ∷ (t2 + t4) ∷ t4 ∷ [] ≡ exact_m4 (a ∷ b ∷ c ∷ d ∷ [])
m4_sums a b c d = four_eq (omega arith) (omega arith) (omega arith) (omega arith) ∙ sym (exact_m4-four a b c d)

-- a row of a matrix by halves
row_halves : (c0 c1 c2 c3 h0 h1 h2 h3 l0 l1 l2 l3 : ℕ)
    → c0 * (h0 * half + l0) + (c1 * (h1 * half + l1) + (c2 * (h2 * half + l2) + (c3 * (h3 * half + l3) + 0)))
    ≡ (c0 * h0 + (c1 * h1 + (c2 * h2 + (c3 * h3 + 0)))) * half + (c0 * l0 + (c1 * l1 + (c2 * l2 + (c3 * l3 + 0))))
unfolding exact?
row_halves c0 c1 c2 c3 h0 h1 h2 h3 l0 l1 l2 l3 =
    ringℕ (c0 ∷ c1 ∷ c2 ∷ c3 ∷ h0 ∷ h1 ∷ h2 ∷ h3 ∷ l0 ∷ l1 ∷ l2 ∷ l3 ∷ [])
    (var 0 ⊗ (var 4 ⊗ num half ⊕ var 8) ⊕ (var 1 ⊗ (var 5 ⊗ num half ⊕ var 9) ⊕ (var 2 ⊗ (var 6 ⊗ num half ⊕ var 10) ⊕ (var 3 ⊗ (var 7 ⊗ num half ⊕ var 11) ⊕ num 0))))
    ((var 0 ⊗ var 4 ⊕ (var 1 ⊗ var 5 ⊕ (var 2 ⊗ var 6 ⊕ (var 3 ⊗ var 7 ⊕ num 0)))) ⊗ num half ⊕ (var 0 ⊗ var 8 ⊕ (var 1 ⊗ var 9 ⊕ (var 2 ⊗ var 10 ⊕ (var 3 ⊗ var 11 ⊕ num 0))))) tt

-- ---- blocks by their halves

-- x is high * 2^32 + low, modulo p
pub record Is (p h l x : ℕ) : Type 0 where
  is : x ≈⟨ p ⟩ h * half + l

-- the numbers of the block x, from those of h and l
pub data Part (p : ℕ) : List ℕ → List ℕ → List ℕ → Type 0 where
  part : {h0 h1 h2 h3 l0 l1 l2 l3 x0 x1 x2 x3 : ℕ} → Is p h0 l0 x0 → Is p h1 l1 x1 → Is p h2 l2 x2 → Is p h3 l3 x3
      → Part p (h0 ∷ h1 ∷ h2 ∷ h3 ∷ []) (l0 ∷ l1 ∷ l2 ∷ l3 ∷ []) (x0 ∷ x1 ∷ x2 ∷ x3 ∷ [])

-- of each block
pub data Parts (p : ℕ) : List (List ℕ) → List (List ℕ) → List (List ℕ) → Type 0 where
  no_part : Parts p [] [] []
  and_part : {h l x : List ℕ} {hs ls xs : List (List ℕ)} → Part p h l x → Parts p hs ls xs → Parts p (h ∷ hs) (l ∷ ls) (x ∷ xs)

module _ (p : ℕ) where
  word_part : (n : ℕ) → Is p (n / half) (n % half) n
  word_part n = let e : n ≡ n / half * half + n % half = omega (arith, div-add-mod n half) in record { is = eq≈ e }

  -- the halves of a list's numbers
  pub parts_of : (xs : List ℕ) → Parts p (blocks (map (λ n. n / half) xs)) (blocks (map (λ n. n % half) xs)) (blocks xs)
  unfolding blocks
  parts_of [] = no_part
  parts_of (a ∷ []) = no_part
  parts_of (a ∷ b ∷ []) = no_part
  parts_of (a ∷ b ∷ c ∷ []) = no_part
  parts_of (a ∷ b ∷ c ∷ d ∷ xs) = and_part (part (word_part a) (word_part b) (word_part c) (word_part d)) (parts_of xs)

  -- and joined again, block by block
  pub joins_all : (n : ℕ) (hs ls rs : List (List ℕ))
      → ((k : ℕ) → k < n → residues p (four (get_or rs k [])) ≡ residues p (joins (four (get_or hs k [])) (four (get_or ls k []))))
      → residues p (flat n rs) ≡ residues p (joins (flat n hs) (flat n ls))
  unfolding residues
  joins_all n hs ls rs e =
      flat_by n (λ i m. residues p (flat_from i m rs) ≡ residues p (joins (flat_from i m hs) (flat_from i m ls))) (λ i. refl) (λ i m b f. append_eq (e i b) f)

  -- residues may stand for the halves and for the number
  is_residue : (h l x : ℕ) → x ≈⟨ p ⟩ h * half + l → Is p (h % p) (l % p) (x % p)
  is_residue h l x e = record { is = trans≈ (mod≈ x) (trans≈ e (sym≈ (add≈ (mul≈ (mod≈ h) (refl≈ {a = half})) (mod≈ l)))) }

  -- ---- a sum, and M4

  none : Part p (0 ∷ 0 ∷ 0 ∷ 0 ∷ []) (0 ∷ 0 ∷ 0 ∷ 0 ∷ []) (0 ∷ 0 ∷ 0 ∷ 0 ∷ [])
  none = part zero zero zero zero
    where
      zero : Is p 0 0 0
      zero = record { is = refl≈ }

  part_sum : {h l x g k y : List ℕ} → Part p h l x → Part p g k y → Part p (add_lists p h g) (add_lists p l k) (add_lists p x y)
  unfolding add_lists add
  part_sum (part a b c d) (part e f g h) = part (word a e) (word b f) (word c g) (word d h)
    where
      word : {h l x g k y : ℕ} → Is p h l x → Is p g k y → Is p ((h + g) % p) ((l + k) % p) ((x + y) % p)
      word {h} {l} {x} {g} {k} {y} e f =
          let s : h * half + l + (g * half + k) ≡ (h + g) * half + (l + k) = omega arith in
          is_residue (h + g) (l + k) (x + y) (trans≈ (add≈ e.is f.is) (eq≈ s))

  part_m4 : {h l x : List ℕ} → Part p h l x → Part p (m4 p h) (m4 p l) (m4 p x)
  unfolding m4 rows_times m4_rows dot
  part_m4 (part {h0} {h1} {h2} {h3} {l0} {l1} {l2} {l3} {x0} {x1} {x2} {x3} a b c d) = part (row 5 7 1 3) (row 4 6 1 1) (row 1 3 5 7) (row 1 1 4 6)
    where
      row : (c0 c1 c2 c3 : ℕ)
          → Is p ((c0 * h0 + (c1 * h1 + (c2 * h2 + (c3 * h3 + 0)))) % p) ((c0 * l0 + (c1 * l1 + (c2 * l2 + (c3 * l3 + 0)))) % p) ((c0 * x0 + (c1 * x1 + (c2 * x2 + (c3 * x3 + 0)))) % p)
      row c0 c1 c2 c3 =
          is_residue (c0 * h0 + (c1 * h1 + (c2 * h2 + (c3 * h3 + 0)))) (c0 * l0 + (c1 * l1 + (c2 * l2 + (c3 * l3 + 0)))) (c0 * x0 + (c1 * x1 + (c2 * x2 + (c3 * x3 + 0))))
          (trans≈ (add≈ (mul≈ (refl≈ {a = c0}) a.is) (add≈ (mul≈ (refl≈ {a = c1}) b.is) (add≈ (mul≈ (refl≈ {a = c2}) c.is) (add≈ (mul≈ (refl≈ {a = c3}) d.is) (refl≈ {a = 0})))))
          (eq≈ (row_halves c0 c1 c2 c3 h0 h1 h2 h3 l0 l1 l2 l3)))

  -- ---- the layer

  parts_m4 : {hs ls xs : List (List ℕ)} → Parts p hs ls xs → Parts p (map (m4 p) hs) (map (m4 p) ls) (map (m4 p) xs)
  parts_m4 no_part = no_part
  parts_m4 (and_part a u) = and_part (part_m4 a) (parts_m4 u)

  parts_total : {hs ls xs : List (List ℕ)} → Parts p hs ls xs → Part p (sum_blocks p hs) (sum_blocks p ls) (sum_blocks p xs)
  unfolding sum_blocks
  parts_total no_part = none
  parts_total (and_part a u) = part_sum a (parts_total u)

  parts_each : {a b c : List ℕ} {hs ls xs : List (List ℕ)} → Part p a b c → Parts p hs ls xs
      → Parts p (add_to_each p a hs) (add_to_each p b ls) (add_to_each p c xs)
  unfolding add_to_each
  parts_each q no_part = no_part
  parts_each q (and_part a u) = and_part (part_sum a q) (parts_each q u)

  parts_mixed : {hs ls xs : List (List ℕ)} → Parts p hs ls xs → Parts p (mixed p hs) (mixed p ls) (mixed p xs)
  unfolding mixed
  parts_mixed no_part = no_part
  parts_mixed (and_part a no_part) = and_part a no_part
  parts_mixed (and_part a (and_part b u)) = parts_each (parts_total (and_part a (and_part b u))) (and_part a (and_part b u))

  parts_joined : {hs ls xs : List (List ℕ)} → Parts p hs ls xs → residues p (join_blocks xs) ≡ residues p (joins (join_blocks hs) (join_blocks ls))
  unfolding residues join_blocks
  parts_joined no_part = refl
  parts_joined (and_part (part a b c d) u) = cons_eq a.is.same (cons_eq b.is.same (cons_eq c.is.same (cons_eq d.is.same (parts_joined u))))

  -- M_E of the numbers xs, from that of their halves
  pub external_joined : 0 < p → {t : ℕ} → Width t → (hs ls xs rs : List ℕ) → length xs ≡ t → Parts p (blocks hs) (blocks ls) (blocks xs)
      → residues p rs ≡ residues p (joins (external p hs) (external p ls)) → residues p rs ≡ external p xs
  unfolding external
  external_joined pos w hs ls xs rs n u e = e ∙ sym (parts_joined (parts_mixed (parts_m4 u))) ∙ state_words (external_state pos w xs n)
