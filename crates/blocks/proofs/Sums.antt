-- Sums of blocks of numbers.
use mathlib.Core.Path.{◌≡◌, ap, ◌∙◌}
use mathlib.Core.List.{List, [], ◌∷◌, ◌++◌}
use Prim.Native.Nat.{ℕ, zero, suc, ◌+◌, ◌≤◌}
use native.Mathlib.Nat.{add-zero}
use native.Mathlib.Numerals.{add-one}
use native.Mathlib.Omega.{arith}
use lib.ListN.{get_or, drop}
use Rattle.poseidon2.specs.Layers.{sum}
use Rattle.blocks.specs.Blocks.{four, flat_from, flat}

pub four_added : (n : ℕ) (x : List ℕ) → n + get_or x 0 0 + get_or x 1 0 + get_or x 2 0 + get_or x 3 0 ≡ n + sum (four x)
unfolding sum
four_added n x = omega arith

sum-split : (xs ys : List ℕ) → sum (xs ++ ys) ≡ sum xs + sum ys
unfolding sum
sum-split [] ys = omega arith
sum-split (x ∷ xs) ys = omega (arith, sum-split xs ys)

-- one block more, behind those that are there
sum_more : (n i : ℕ) (bs : List (List ℕ)) → sum (flat_from i (suc n) bs) ≡ sum (flat_from i n bs) + sum (four (get_or bs (i + n) []))
unfolding sum
sum_more zero i bs = sum-split (four (get_or bs i [])) [] ∙ omega (arith, ap (λ (k : ℕ). sum (four (get_or bs k []))) (add-zero i))
sum_more (suc n) i bs =
    let k : suc i + n ≡ i + suc n = omega arith in
    omega (
      arith,
      sum-split (four (get_or bs i [])) (flat_from (suc i) (suc n) bs),
      sum-split (four (get_or bs i [])) (flat_from (suc i) n bs),
      sum_more n (suc i) bs,
      ap (λ (j : ℕ). sum (four (get_or bs j []))) k,
    )

-- of all words but word 0
pub others_more : (i : ℕ) (bs : List (List ℕ)) → 1 ≤ i → sum (drop 1 (flat (i + 1) bs)) ≡ sum (drop 1 (flat i bs)) + sum (four (get_or bs i []))
unfolding sum
others_more zero bs h = absurd (omega arith)
others_more (suc i) bs h =
    let k : 1 + i ≡ suc i = omega arith in
    ap (λ (j : ℕ). sum (drop 1 (flat j bs))) (add-one (suc i)) ∙ omega (arith, sum_more i 1 bs, ap (λ (j : ℕ). sum (four (get_or bs j []))) k)

pub others_alone : (bs : List (List ℕ)) → get_or (get_or bs 0 []) 1 0 + get_or (get_or bs 0 []) 2 0 + get_or (get_or bs 0 []) 3 0 ≡ sum (drop 1 (flat 1 bs))
unfolding sum
others_alone bs = omega arith
