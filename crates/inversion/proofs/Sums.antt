-- Sums, and sums of products, from the last number to the first.
use mathlib.Core.Path.{◌≡◌, refl, sym, ap, ap₂, ◌∙◌}
use mathlib.Core.List.{List, [], ◌∷◌}
use Prim.Native.Nat.{ℕ, suc, ◌+◌, ◌*◌, ◌-◌, ◌%◌, ◌<◌, ◌≤◌}
use native.Mathlib.Nat.{add_comm, add-zero, sub-zero, zero-mul}
use native.Mathlib.Omega.{arith}
use lib.ListN.{length, get_or, take, drop}
use lib.Seq.{take-nil, drop-cons, drop-length}
use Rattle.modular.specs.Congruence.{◌≈⟨◌⟩◌}
use Rattle.modular.proofs.Congruence.{eq≈, trans≈, add≈, mod≈}
use Rattle.poseidon2.specs.Layers.{sum, dot}
use Rattle.poseidon2.specs.Residues.{residues}
use Rattle.poseidon2.proofs.Places.{first_at, rest_at}
use Rattle.inversion.proofs.Residues.{times_residue}

-- a total with one summand more, which stands before the others
before≈ : {p total n m k t : ℕ} → total ≈⟨ p ⟩ n → m ≈⟨ p ⟩ k → t ≈⟨ p ⟩ total + m → t ≈⟨ p ⟩ k + n
before≈ {p} {total} {n} {m} {k} h g f = trans≈ f (trans≈ (add≈ h g) (eq≈ (add_comm n k)))

-- ---- sums

pub sum-none : {p : ℕ} (ys : List ℕ) → 0 ≈⟨ p ⟩ sum (drop (length ys) ys)
unfolding sum
sum-none ys = eq≈ (sym (ap sum (drop-length ys)))

pub sum_more : {p total m t : ℕ} (i : ℕ) (ys : List ℕ) → 0 < i → i ≤ length ys → total ≈⟨ p ⟩ sum (drop i ys) → m ≡ get_or ys (i - 1) 0 % p → t ≈⟨ p ⟩ total + m
    → t ≈⟨ p ⟩ sum (drop (i - 1) ys)
unfolding sum
sum_more i ys h l e g f =
    let next : suc (i - 1) ≡ i = omega arith in
    trans≈ (before≈ e (trans≈ (eq≈ g) (mod≈ (get_or ys (i - 1) 0))) f)
    (eq≈ (sym (ap sum (drop-cons ys (i - 1) 0 (omega arith)) ∙ ap (λ (n : ℕ). get_or ys (i - 1) 0 + sum (drop n ys)) next)))

-- ---- sums of products

-- a place that the list lacks counts as 0
dot_first : (k : ℕ) (es ys : List ℕ) → dot (take (suc k) es) ys ≡ get_or es 0 0 * get_or ys 0 0 + dot (take k (drop 1 es)) (drop 1 ys)
unfolding dot
dot_first k [] ys =
    sym (ap₂ (λ (m : ℕ) (l : List ℕ). m + dot l (drop 1 ys)) (zero-mul (get_or ys 0 0)) (take-nil k))
dot_first k (e ∷ es) ys = refl

-- k products behind the one at place i
dot_at : (k i : ℕ) (es ys : List ℕ) → dot (take (suc k) (drop i es)) (drop i ys) ≡ get_or es i 0 * get_or ys i 0 + dot (take k (drop (suc i) es)) (drop (suc i) ys)
dot_at k i es ys = rw (dot_first k (drop i es) (drop i ys), first_at es i, first_at ys i, rest_at es i, rest_at ys i)

-- the four products from place i on
abbrev four_products : List ℕ → List ℕ → ℕ → ℕ
four_products es ys i =
    get_or es i 0 * get_or ys i 0 + (get_or es (i + 1) 0 * get_or ys (i + 1) 0 + (get_or es (i + 2) 0 * get_or ys (i + 2) 0 + get_or es (i + 3) 0 * get_or ys (i + 3) 0))

-- and k others behind them
dot_from_lem : (k i : ℕ) (es ys : List ℕ) → dot (take (suc (suc (suc (suc k)))) (drop i es)) (drop i ys) ≡ four_products es ys i + dot (take k (drop (i + 4) es)) (drop (i + 4) ys)
dot_from_lem k i es ys =
    let one : i + 1 ≡ suc i = omega arith in
    let two : i + 2 ≡ suc (suc i) = omega arith in
    let three : i + 3 ≡ suc (suc (suc i)) = omega arith in
    let four : i + 4 ≡ suc (suc (suc (suc i))) = omega arith in
    rw (one, two, three, four)
    (omega
    (arith, dot_at (suc (suc (suc k))) i es ys, dot_at (suc (suc k)) (suc i) es ys, dot_at (suc k) (suc (suc i)) es ys, dot_at k (suc (suc (suc i))) es ys))

dot_block : (i : ℕ) (es ys : List ℕ) → dot (take 4 (drop i es)) (drop i ys) ≡ four_products es ys i
unfolding dot
dot_block i es ys = dot_from_lem 0 i es ys ∙ add-zero (four_products es ys i)

-- four products, added to one another from the last on: they stand for those of the words
pub dot_four : {p b c d t : ℕ} (i : ℕ) (es ys : List ℕ)
    → d ≈⟨ p ⟩ get_or es (i + 3) 0 * get_or ys (i + 3) 0
    → c ≈⟨ p ⟩ d + get_or es (i + 2) 0 * get_or ys (i + 2) 0
    → b ≈⟨ p ⟩ c + get_or es (i + 1) 0 * get_or ys (i + 1) 0
    → t ≈⟨ p ⟩ b + get_or es i 0 * get_or ys i 0
    → t ≈⟨ p ⟩ dot (take 4 (drop i es)) (drop i (residues p ys))
dot_four {p} i es ys e f g k =
    trans≈ (before≈ (before≈ (before≈ (trans≈ e (word (i + 3))) (word (i + 2)) f) (word (i + 1)) g) (word i) k) (eq≈ (sym (dot_block i es (residues p ys))))
  where
    word : (j : ℕ) → get_or es j 0 * get_or ys j 0 ≈⟨ p ⟩ get_or es j 0 * get_or (residues p ys) j 0
    word j = times_residue (get_or es j 0) ys j

-- the products from place i to place n
abbrev pub dot_from : List ℕ → List ℕ → ℕ → ℕ → ℕ
dot_from es ys n i = dot (take (n - i) (drop i es)) (drop i ys)

pub dot_none : {p : ℕ} (es ys : List ℕ) (n : ℕ) → 0 ≈⟨ p ⟩ dot_from es ys n n
unfolding dot
dot_none es ys n =
    let z : n - n ≡ 0 = omega arith in
    eq≈ (sym (ap (λ (m : ℕ). dot (take m (drop n es)) (drop n ys)) z))

pub dot_all : (es ys : List ℕ) (n : ℕ) → dot_from es ys n 0 ≡ dot (take n es) ys
dot_all es ys n = ap (λ (m : ℕ). dot (take m es) ys) (sub-zero n)

-- a block more, at place j: b stands for its products, and m is the word that the total stands for
pub dot_more : {p total b m t : ℕ} (es ys : List ℕ) (n i j : ℕ) → j + 4 ≡ i → i ≤ n → total ≈⟨ p ⟩ dot_from es ys n i
    → b ≈⟨ p ⟩ dot (take 4 (drop j es)) (drop j ys) → m ≡ total % p → t ≈⟨ p ⟩ b + m → t ≈⟨ p ⟩ dot_from es ys n j
dot_more {p} {total} es ys n i j back l e g q f =
    let count : n - j ≡ suc (suc (suc (suc (n - i)))) = omega arith in
    let split : dot_from es ys n j ≡ dot (take 4 (drop j es)) (drop j ys) + dot_from es ys n i =
    ap (λ (k : ℕ). dot (take k (drop j es)) (drop j ys)) count
    ∙ dot_from_lem (n - i) j es ys
    ∙ ap₂ (λ (a k : ℕ). a + dot (take (n - i) (drop k es)) (drop k ys)) (sym (dot_block j es ys)) back in
    trans≈ f (trans≈ (add≈ g (trans≈ (eq≈ q) (trans≈ (mod≈ total) e))) (eq≈ (sym split)))
