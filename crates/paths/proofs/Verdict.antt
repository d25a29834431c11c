-- The path from a leaf: a node put back in its row, and what the path's loop keeps.
use mathlib.Core.Path.{◌≡◌, sym, ap, ap₂, ◌∙◌}
use mathlib.Core.List.{List, ◌++◌, append_assoc}
use Prim.Native.Nat.{ℕ, suc, ◌+◌, ◌*◌, ◌-◌, ◌/◌, ◌%◌, ◌^◌, ◌≤◌, ◌<◌}
use native.Mathlib.Numerals.{add-one}
use native.Mathlib.Omega.{arith}
use lib.ListN.{length, take, drop, length-drop}
use lib.Seq.{take-take, drop-drop}
use Rattle.merkle.specs.Levels.{Shape, Regular}
use Rattle.merkle.specs.Lists.{part, put}
use Rattle.merkle.specs.Openings.{put_back, row_with, siblings_at, path_node}
use Rattle.merkle.proofs.Levels.{fits}
use Rattle.merkle.proofs.Lists.{length_part, length-put, drop-take}
use Rattle.merkle.proofs.Openings.{but_one, over_leaf, over_next}
use Rattle.trees.specs.declared.Dimensions.{Dimensions}
use Rattle.trees.specs.Shapes.{tree, ValidNumbers}
use Rattle.trees.proofs.Shapes.{regular}
use Rattle.trees.proofs.Lists.{take-put_next}

module _ (S : Shape) (G : Regular S) (c : ℕ) (a : c < S.arity) where
  open S use {arity as k, node_size as l}

  pub child_fits : c * l ≤ (k - 1) * l
  child_fits = omega (arith, fits l k c a, but_one S G)

  pub row_length : c * l + l + ((k - 1) * l - c * l) ≡ k * l
  row_length = omega (arith, child_fits, but_one S G)

  -- the siblings before it, the node, and the siblings behind it
  module _ (own siblings : List ℕ) (at : ℕ) (lo : l ≤ length own) (ls : at + (k - 1) * l ≤ length siblings) where
    pub put_back_parts : put_back S c (take l own) (part at ((k - 1) * l) siblings) ≡ part at (c * l) siblings ++ (take l own ++ part (at + c * l) ((k - 1) * l - c * l) siblings)
    unfolding put_back
    put_back_parts =
        let r : ℕ = (k - 1) * l - c * l in
        let e : (k - 1) * l ≡ c * l + r = omega (arith, child_fits) in
        ap₂ (λ (x y : List ℕ). x ++ (take l own ++ y)) (take-take (c * l) ((k - 1) * l) (drop at siblings) child_fits)
        (ap (λ (m : ℕ). drop (c * l) (take m (drop at siblings))) e ∙ drop-take (c * l) r (drop at siblings) (omega (arith, length-drop at siblings, child_fits)) ∙ ap (take r) (drop-drop (c * l) at siblings))

    pub put_back_copied : (z x y r : List ℕ) → k * l ≤ length z
        → x ≡ put z 0 (part at (c * l) siblings) → y ≡ put x (c * l) (part 0 l own) → r ≡ put y (c * l + l) (part (at + c * l) ((k - 1) * l - c * l) siblings)
        → take (k * l) r ≡ put_back S c (take l own) (part at ((k - 1) * l) siblings)
    put_back_copied z x y r b ex ey er =
        let A : List ℕ = part at (c * l) siblings in
        let B : List ℕ = part 0 l own in
        let Z : List ℕ = part (at + c * l) ((k - 1) * l - c * l) siblings in
        let rest : ℕ = (k - 1) * l - c * l in
        let zero_more : 0 + c * l ≡ c * l = omega arith in
        let lA : length A ≡ c * l = length_part at (c * l) siblings (omega (arith, child_fits)) in
        let lB : length B ≡ l = length_part 0 l own (omega arith) in
        let lZ : length Z ≡ rest = length_part (at + c * l) rest siblings (omega (arith, child_fits)) in
        let lx : length x ≡ length z = ap length ex ∙ length-put z 0 A (omega (arith, row_length)) in
        let ly : length y ≡ length z = ap length ey ∙ length-put x (c * l) B (omega (arith, row_length)) ∙ lx in
        let fx : take (c * l) x ≡ A = ap (λ (n : ℕ). take n x) (sym zero_more) ∙ ap (take (0 + c * l)) ex ∙ take-put_next z 0 A (c * l) lA (omega (arith, row_length)) in
        let fy : take (c * l + l) y ≡ A ++ B = ap (take (c * l + l)) ey ∙ take-put_next x (c * l) B l lB (omega (arith, row_length)) ∙ ap (λ (u : List ℕ). u ++ B) fx in
        ap (λ (n : ℕ). take n r) (sym row_length)
        ∙ ap (take (c * l + l + rest)) er
        ∙ take-put_next y (c * l + l) Z rest lZ (omega (arith, row_length))
        ∙ ap (λ (u : List ℕ). u ++ Z) fy
        ∙ append_assoc A B Z
        ∙ sym put_back_parts

-- the node of level j that the leaf comes to is in the first places
pub record Walked (d : Dimensions) (D C : List ℕ) (q : ℕ) (leaf siblings : List ℕ) (j : ℕ) (own : List ℕ) (number : ℕ) : Type 0 where
  pub six : length own ≡ 6
  pub is : take d.node_size own ≡ path_node (tree d D C) q leaf siblings j
  pub at : number ≡ q / d.arity ^ j

module _ {d : Dimensions} (v : ValidNumbers d) (D C : List ℕ) (q : ℕ) (leaf siblings : List ℕ) where
  pub walked_none : (own : List ℕ) → length leaf ≡ d.node_size → length own ≡ 6 → take d.node_size own ≡ part (0 * d.node_size) d.node_size leaf
      → Walked d D C q leaf siblings 0 own q
  unfolding path_node
  walked_none own e l f =
      let z : 0 * d.node_size ≡ 0 = native.Mathlib.Nat.zero-mul d.node_size in
      record {
        six = l;
        is = f ∙ ap (λ (n : ℕ). part n d.node_size leaf) z ∙ lib.Seq.take_all d.node_size leaf (omega arith);
        at = sym (over_leaf (tree d D C) (regular v D C) q);
      }

  pub walked_more : {j : ℕ} {own : List ℕ} {number : ℕ} (row after : List ℕ) → Walked d D C q leaf siblings j own number → length after ≡ 6
      → take (d.arity * d.node_size) row ≡ put_back (tree d D C) (number % d.arity) (take d.node_size own) (part (j * ((d.arity - 1) * d.node_size)) ((d.arity - 1) * d.node_size) siblings)
      → take d.node_size after ≡ (tree d D C).compress (take (d.arity * d.node_size) row)
      → Walked d D C q leaf siblings (j + 1) after (number / d.arity)
  unfolding path_node row_with siblings_at
  walked_more {j} {own} {number} row after W l e f =
      let S = tree d D C in
      let s : j + 1 ≡ suc j = add-one j in
      let X : List ℕ = part (j * ((d.arity - 1) * d.node_size)) ((d.arity - 1) * d.node_size) siblings in
      record {
        six = l;
        is =
            rw s
            (f ∙ ap S.compress (e ∙ ap (λ (z : List ℕ). put_back S (number % d.arity) z X) W.is ∙ ap (λ (n : ℕ). put_back S (n % d.arity) (path_node S q leaf siblings j) X) W.at));
        at = rw s (ap (λ (n : ℕ). n / d.arity) W.at ∙ sym (over_next S (regular v D C) q j));
      }
