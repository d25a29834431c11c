-- The words that the permutation and the compression put into slices.
use mathlib.Core.Path.{◌≡◌, refl, sym, ap, ap₂, ◌∙◌}
use mathlib.Core.Logic.{inl, inr}
use mathlib.Core.List.{List, [], ◌++◌, append-nil}
use Prim.Native.Nat.{ℕ, suc, ◌+◌, ◌*◌, ◌%◌, ◌<◌, ◌≤◌}
use native.Mathlib.Nat.{add_comm, add-zero, zero-add}
use native.Mathlib.Omega.{arith}
use lib.ListN.{length, get_or, take, drop, set}
use lib.Seq.{take_all, take-take, take-add, drop-drop, drop-length, paste, paste-zero, paste-suc, take-paste, drop-paste}
use Rattle.modular.specs.Arithmetic.{add}
use Rattle.modular.specs.Congruence.{◌≈⟨◌⟩◌}
use Rattle.poseidon2.specs.Layers.{add_lists}
use Rattle.poseidon2.specs.Residues.{residues}
use Rattle.poseidon2.specs.Rounds.{permute}
use Rattle.poseidon2.specs.Compression.{compress}
use Rattle.poseidon2.specs.Statements.{Width}
use Rattle.poseidon2.proofs.Words.{residues_length}
use Rattle.poseidon2.proofs.Places.{add_at_lem, add_lists-take}
use Rattle.blocks.specs.Blocks.{four, flat_from, flat}
use Rattle.blocks.proofs.Each.{flat_by, flat_length, block_at}
use Rattle.blocks.proofs.Lists.{four_eq, append_eq, add_lists-append}

pub sum-of_words : {p : ℕ} (x y : ℕ) {b s r : ℕ} → b ≡ x % p → s ≈⟨ p ⟩ y + b → r ≡ s % p → r ≡ add p (x % p) y
unfolding add
sum-of_words {p} x y {b} e f g = g ∙ f.same ∙ ap (λ (z : ℕ). (y + z) % p) e ∙ ap (λ (z : ℕ). z % p) (add_comm y (x % p))

-- a block and four numbers of a list
pub added_four : (p : ℕ) (x r xs : List ℕ) (k : ℕ)
    → get_or r 0 0 ≡ add p (get_or x 0 0 % p) (get_or xs k 0)
    → get_or r 1 0 ≡ add p (get_or x 1 0 % p) (get_or xs (k + 1) 0)
    → get_or r 2 0 ≡ add p (get_or x 2 0 % p) (get_or xs (k + 2) 0)
    → get_or r 3 0 ≡ add p (get_or x 3 0 % p) (get_or xs (k + 3) 0)
    → four r ≡ add_lists p (residues p (four x)) (drop k xs)
unfolding residues
added_four p x r xs k e f g h =
    four_eq e (f ∙ at (get_or x 1 0 % p) (k + 1) (suc k) (omega arith)) (g ∙ at (get_or x 2 0 % p) (k + 2) (suc (suc k)) (omega arith))
    (h ∙ at (get_or x 3 0 % p) (k + 3) (suc (suc (suc k))) (omega arith))
    ∙ sym (add_at_lem p xs k (residues p (four x)))
  where
    at : (a i j : ℕ) → i ≡ j → add p a (get_or xs i 0) ≡ add p a (get_or xs j 0)
    at a i j n = ap (λ (m : ℕ). add p a (get_or xs m 0)) n

-- more blocks
added_more : (p : ℕ) (x ys xs : List ℕ) (k : ℕ) → add_lists p (residues p (four x)) (drop k xs) ++ add_lists p ys (drop (k + 4) xs) ≡ add_lists p (residues p (four x) ++ ys) (drop k xs)
unfolding residues
added_more p x ys xs k =
    ap (λ (zs : List ℕ). add_lists p (residues p (four x)) (drop k xs) ++ add_lists p ys zs) (sym (drop-drop 4 k xs)) ∙ add_lists-append p (residues p (four x)) ys (drop k xs)

-- the numbers added are a row
in_row : (p n : ℕ) (ys zs row : List ℕ) → length ys ≡ n → ys ≡ zs → add_lists p ys row ≡ add_lists p zs (take n row)
in_row p n ys zs row l e =
    sym (add_lists-take p ys row) ∙ ap₂ (λ (m : ℕ) (ws : List ℕ). add_lists p ws (take m row)) l e

-- block by block
pub added_all : (p n : ℕ) (xs rs : List (List ℕ)) (ys : List ℕ) (at : ℕ)
    → ((k : ℕ) → k < n → four (get_or rs k []) ≡ add_lists p (residues p (four (get_or xs k []))) (drop (at + 4 * k) ys))
    → flat n rs ≡ add_lists p (residues p (flat n xs)) (drop at ys)
unfolding residues add_lists
added_all p n xs rs ys at e =
    flat_by n (λ i m. flat_from i m rs ≡ add_lists p (residues p (flat_from i m xs)) (drop (at + 4 * i) ys)) (λ i. refl)
    (λ i m b f.
    let k : at + 4 * suc i ≡ at + 4 * i + 4 = omega arith in
    append_eq (e i b) (f ∙ ap (λ (j : ℕ). add_lists p (residues p (flat_from (suc i) m xs)) (drop j ys)) k)
    ∙ added_more p (get_or xs i []) (residues p (flat_from (suc i) m xs)) ys (at + 4 * i))
    ∙ ap (λ (j : ℕ). add_lists p (residues p (flat n xs)) (drop j ys)) (add-zero at)

-- the words of a state and a row added
pub added_row : (p n : ℕ) (bs : List (List ℕ)) (zs row : List ℕ) → residues p (flat n bs) ≡ zs → add_lists p (residues p (flat n bs)) row ≡ add_lists p zs (take (4 * n) row)
added_row p n bs zs row e = in_row p (4 * n) (residues p (flat n bs)) zs row (residues_length p (flat n bs) ∙ flat_length n bs) e

-- a slice that is written whole
pub whole : (d s : List ℕ) (n : ℕ) → length d ≡ n → paste d 0 s n ≡ take n s
whole d s n l =
    let e : 0 + n ≡ length d = zero-add n ∙ sym l in
    ap (λ (r : List ℕ). take n s ++ r) (ap (λ (m : ℕ). drop m d) e ∙ drop-length d) ∙ append-nil (take n s)

pub all_of : (n : ℕ) (xs : List ℕ) → length xs ≡ n → take n (drop 0 xs) ≡ xs
all_of n xs l = take_all n xs (omega (arith, l))

-- the first words of a sum are the compression
pub compress_code : (p n half rp : ℕ) (D C xs ys : List ℕ) → ys ≡ add_lists p (permute p half rp D C xs) xs → take n ys ≡ compress p n half rp D C xs
unfolding compress
compress_code p n half rp D C xs ys e = ap (take n) e

pub put_compress : (p n half rp to : ℕ) (d D C xs ys : List ℕ) → take n ys ≡ compress p n half rp D C xs → paste d to ys n ≡ paste d to (compress p n half rp D C xs) n
unfolding compress
put_compress p n half rp to d D C xs ys e =
    let l : n ≤ n = omega arith in
    ap (λ (zs : List ℕ). take to d ++ zs ++ drop (to + n) d) (e ∙ sym (take-take n n (add_lists p (permute p half rp D C xs) xs) l))

pub width_small : (n : ℕ) {w : ℕ} → Width w → n ≤ w → n ≤ 12
width_small n (inl e) h = omega (arith, e)
width_small n (inr (inl e)) h = omega (arith, e)
width_small n (inr (inr e)) h = omega (arith, e)

-- a width is 4 or more
pub width_some : {w : ℕ} → Width w → 4 ≤ w
width_some (inl e) = omega (arith, e)
width_some (inr (inl e)) = omega (arith, e)
width_some (inr (inr e)) = omega (arith, e)

-- ---- blocks that are written one after another

pub block_written : (d x : List ℕ) (at : ℕ) → at + 4 ≤ length d
    → set (set (set (set d at (get_or x 0 0)) (at + 1) (get_or x 1 0)) (at + 2) (get_or x 2 0)) (at + 3) (get_or x 3 0) ≡ paste d at (four x) 4
block_written d x at h =
    let F : List ℕ = four x in
    let one : set d at (get_or x 0 0) ≡ paste d at F 1 =
    ap₂ (λ (ys : List ℕ) (k : ℕ). set ys k (get_or x 0 0)) (paste-zero d at F) (sym (add-zero at)) ∙ paste-suc d at F 0 0 (omega arith) (omega arith) in
    let two : set (set d at (get_or x 0 0)) (at + 1) (get_or x 1 0) ≡ paste d at F 2 = ap (λ (ys : List ℕ). set ys (at + 1) (get_or x 1 0)) one ∙ paste-suc d at F 1 0 (omega arith) (omega arith) in
    let three : set (set (set d at (get_or x 0 0)) (at + 1) (get_or x 1 0)) (at + 2) (get_or x 2 0) ≡ paste d at F 3 =
    ap (λ (ys : List ℕ). set ys (at + 2) (get_or x 2 0)) two ∙ paste-suc d at F 2 0 (omega arith) (omega arith) in
    ap (λ (ys : List ℕ). set ys (at + 3) (get_or x 3 0)) three ∙ paste-suc d at F 3 0 (omega arith) (omega arith)

-- the next block of a list, behind those that stand there
next_block : (d F b : List ℕ) (k : ℕ) → take 4 b ≡ take 4 (drop k F) → k + 4 ≤ length d → k + 4 ≤ length F
    → paste (paste d 0 F k) k b 4 ≡ paste d 0 F (k + 4)
next_block d F b k e h g =
    let all : 0 + k ≡ k = zero-add k in
    let front : take k (paste d 0 F k) ≡ take k F = ap (λ (m : ℕ). take m (paste d 0 F k)) (sym all) ∙ take-paste d 0 F k (omega arith) (omega arith) in
    let rest : drop k (paste d 0 F k) ≡ drop k d = ap (λ (m : ℕ). drop m (paste d 0 F k)) (sym all) ∙ drop-paste d 0 F k (omega arith) (omega arith) ∙ ap (λ (m : ℕ). drop m d) all in
    let beyond : drop (k + 4) (paste d 0 F k) ≡ drop (0 + (k + 4)) d =
    sym (drop-drop 4 k (paste d 0 F k)) ∙ ap (drop 4) rest ∙ drop-drop 4 k d ∙ ap (λ (m : ℕ). drop m d) (sym (zero-add (k + 4))) in
    ap₂ (λ (ys zs : List ℕ). ys ++ zs) (append_eq front e ∙ sym (take-add k 4 F)) beyond

-- block k of a state, behind those before it
pub block_more : (n : ℕ) (bs : List (List ℕ)) (d : List ℕ) (k : ℕ) → k < n → length d ≡ 4 * n
    → paste (paste d 0 (flat n bs) (4 * k)) (4 * k) (four (get_or bs k [])) 4 ≡ paste d 0 (flat n bs) (4 * (k + 1))
block_more n bs d k h l =
    let m : 4 * k + 4 ≡ 4 * (k + 1) = omega arith in
    next_block d (flat n bs) (four (get_or bs k [])) (4 * k) (sym (block_at n bs k h)) (omega (arith, l)) (omega (arith, flat_length n bs))
    ∙ ap (paste d 0 (flat n bs)) m

-- and all of them
pub state_written : (n : ℕ) (bs : List (List ℕ)) (d : List ℕ) → length d ≡ 4 * n → paste d 0 (flat n bs) (4 * n) ≡ flat n bs
state_written n bs d l = whole d (flat n bs) (4 * n) l ∙ take_all (4 * n) (flat n bs) (omega (arith, flat_length n bs))
