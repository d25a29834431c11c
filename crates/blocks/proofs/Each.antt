-- Blocks that are made one after another, and what then holds of the numbers of all.
use mathlib.Core.Path.{◌≡◌, refl, sym, ap, ap₂, ◌∙◌}
use mathlib.Core.Logic.{◌≢◌}
use mathlib.Core.List.{List, [], ◌∷◌, ◌++◌, map}
use Prim.Native.Nat.{ℕ, zero, suc, ◌+◌, ◌*◌, ◌/◌, ◌%◌, ◌<◌, ◌≤◌}
use native.Mathlib.Nat.{add-zero}
use native.Mathlib.Omega.{arith}
use borrow.Author.Count.{below_more}
use lib.ListN.{length, get_or, take, drop, set, length-set}
use lib.Seq.{get_or-set_other, get_or-set_same}
use Rattle.blocks.specs.Blocks.{four, flat_from, flat}

-- What holds of no blocks, and with one more in front of those behind it, holds of n: P says it of m blocks from place i on.
pub flat_by : (n : ℕ) (P : ℕ → ℕ → Type 0) → ((i : ℕ) → P i 0) → ((i m : ℕ) → i < n → P (suc i) m → P i (suc m)) → P 0 n
flat_by n P none more = go n 0 (omega arith)
  where
    go : (m i : ℕ) → i + m ≡ n → P i m
    go zero i e = none i
    go (suc m) i e = more i m (omega arith) (go m (suc i) (omega arith))

-- The first i of n blocks are made, each as P says.
pub record Made (P : ℕ → List ℕ → Type 0) (n i : ℕ) (rs : List (List ℕ)) : Type 0 where
  pub long : length rs ≡ n
  pub at : (k : ℕ) → k < i → P k (get_or rs k [])

module _ {P : ℕ → List ℕ → Type 0} {n : ℕ} where
  pub made_more : {i : ℕ} {rs : List (List ℕ)} {r : List ℕ} → i < n → Made P n i rs → P i r → Made P n (i + 1) (set rs i r)
  made_more {i} {rs} {r} h M here =
      let l : i < length rs = omega (arith, M.long) in
      record {
        long = length-set rs i r ∙ M.long;
        at = below_more _ _ (λ k b. let ne : k ≢ i = omega arith in rw get_or-set_other (M.at k b)) (rw get_or-set_same here);
      }

-- A function of each number.
pub map_all : (f : ℕ → ℕ) (n : ℕ) (xs rs : List (List ℕ)) → ((k : ℕ) → k < n → four (get_or rs k []) ≡ map f (four (get_or xs k [])))
    → flat n rs ≡ map f (flat n xs)
map_all f n xs rs h = flat_by n (λ i m. flat_from i m rs ≡ map f (flat_from i m xs)) (λ i. refl) (λ i m b e. ap₂ (λ (ys zs : List ℕ). ys ++ zs) (h i b) e)

pub flat_length : (n : ℕ) (xs : List (List ℕ)) → length (flat n xs) ≡ 4 * n
flat_length n xs = flat_by n (λ i m. length (flat_from i m xs) ≡ 4 * m) (λ i. refl) (λ i m b e. omega (arith, e))

-- The first block is `first`, and P says how each behind it is made.
pub record Behind (first : List ℕ) (P : ℕ → List ℕ → Type 0) (k : ℕ) (r : List ℕ) : Type 0 where
  pub head : k ≡ 0 → r ≡ first
  pub behind : 0 < k → P k r

-- ---- places among the numbers

flat_from_at : (bs : List (List ℕ)) (c i j : ℕ) → j < 4 * c → get_or (flat_from i c bs) j 0 ≡ get_or (get_or bs (i + j / 4) []) (j % 4) 0
flat_from_at bs zero i j h = absurd (omega arith)
flat_from_at bs (suc c) i zero h = ap (λ (k : ℕ). get_or (get_or bs k []) 0 0) (sym (add-zero i))
flat_from_at bs (suc c) i (suc zero) h = ap (λ (k : ℕ). get_or (get_or bs k []) 1 0) (sym (add-zero i))
flat_from_at bs (suc c) i (suc (suc zero)) h = ap (λ (k : ℕ). get_or (get_or bs k []) 2 0) (sym (add-zero i))
flat_from_at bs (suc c) i (suc (suc (suc zero))) h = ap (λ (k : ℕ). get_or (get_or bs k []) 3 0) (sym (add-zero i))
flat_from_at bs (suc c) i (suc (suc (suc (suc j)))) h =
    let q : suc i + j / 4 ≡ i + suc (suc (suc (suc j))) / 4 = omega arith in
    let r : j % 4 ≡ suc (suc (suc (suc j))) % 4 = omega arith in
    flat_from_at bs c (suc i) j (omega arith) ∙ ap₂ (λ (k l : ℕ). get_or (get_or bs k []) l 0) q r

-- the number at place j
pub flat_at : (n : ℕ) (bs : List (List ℕ)) (j : ℕ) → j < 4 * n → get_or (flat n bs) j 0 ≡ get_or (get_or bs (j / 4) []) (j % 4) 0
flat_at n bs j h =
    let z : 0 + j / 4 ≡ j / 4 = omega arith in
    flat_from_at bs n 0 j h ∙ ap (λ (k : ℕ). get_or (get_or bs k []) (j % 4) 0) z

-- the block at place i
block_from : (bs : List (List ℕ)) (c i k : ℕ) → k < c → take 4 (drop (4 * k) (flat_from i c bs)) ≡ four (get_or bs (i + k) [])
block_from bs zero i k h = absurd (omega arith)
block_from bs (suc c) i zero h = ap (λ (j : ℕ). four (get_or bs j [])) (sym (add-zero i))
block_from bs (suc c) i (suc k) h =
    let d : 4 * suc k ≡ suc (suc (suc (suc (4 * k)))) = omega arith in
    let j : suc i + k ≡ i + suc k = omega arith in
    ap (λ (m : ℕ). take 4 (drop m (flat_from i (suc c) bs))) d ∙ block_from bs c (suc i) k (omega arith) ∙ ap (λ (m : ℕ). four (get_or bs m [])) j

pub block_at : (n : ℕ) (bs : List (List ℕ)) (k : ℕ) → k < n → take 4 (drop (4 * k) (flat n bs)) ≡ four (get_or bs k [])
block_at n bs k h =
    let z : 0 + k ≡ k = omega arith in
    block_from bs n 0 k h ∙ ap (λ (m : ℕ). four (get_or bs m [])) z

-- the numbers behind the first block
set_behind : (m k i : ℕ) (bs : List (List ℕ)) (b : List ℕ) → i < k → flat_from k m (set bs i b) ≡ flat_from k m bs
set_behind zero k i bs b h = refl
set_behind (suc m) k i bs b h =
    let ne : k ≢ i = omega arith in
    ap₂ (λ (ys zs : List ℕ). ys ++ zs) (ap (λ (x : List ℕ). four x) (get_or-set_other bs i k b [] ne)) (set_behind m (suc k) i bs b (omega arith))

-- the first number
pub first_of : (n : ℕ) (bs : List (List ℕ)) → 1 ≤ n → flat n bs ≡ get_or (get_or bs 0 []) 0 0 ∷ drop 1 (flat n bs)
first_of zero bs h = absurd (omega arith)
first_of (suc n) bs h = refl

-- another one in its place
pub set_first : (n : ℕ) (bs : List (List ℕ)) (x : ℕ) → 1 ≤ n → length bs ≡ n
    → let b = get_or bs 0 [] in flat n (set bs 0 (x ∷ get_or b 1 0 ∷ get_or b 2 0 ∷ get_or b 3 0 ∷ [])) ≡ x ∷ drop 1 (flat n bs)
set_first zero bs x h l = absurd (omega arith)
set_first (suc n) bs x h l =
    let b = get_or bs 0 [] in
    let r = x ∷ get_or b 1 0 ∷ get_or b 2 0 ∷ get_or b 3 0 ∷ [] in
    let h : 0 < length bs = omega arith in
    ap₂ (λ (y ys : List ℕ). four y ++ ys) (get_or-set_same bs 0 r [] h) (set_behind n 1 0 bs r (omega arith))
