-- A replacement's climb: what its loop keeps.
use mathlib.Core.Path.{◌≡◌, refl, sym, ap, ◌∙◌}
use mathlib.Core.List.{List}
use Prim.Native.Nat.{ℕ, ◌+◌, ◌*◌, ◌/◌, ◌^◌, ◌≤◌, ◌<◌}
use native.Mathlib.Numerals.{add-one}
use native.Mathlib.Omega.{arith}
use lib.ListN.{length}
use lib.Seq.{take_all}
use Rattle.merkle.specs.Levels.{Shape, size}
use Rattle.merkle.specs.Lists.{part, put}
use Rattle.merkle.specs.Numbering.{number_of, write_node, ascend}
use Rattle.merkle.specs.Replacement.{Counted, replace_from}
use Rattle.merkle.proofs.Lists.{length-put}
use Rattle.merkle.proofs.Numbering.{replace_ascend}
use Rattle.merkle.proofs.Replacement.{leaf_fits}
use Rattle.trees.specs.declared.Dimensions.{Dimensions}
use Rattle.trees.specs.Shapes.{tree, ValidNumbers, counted}
use Rattle.trees.proofs.Shapes.{regular}
use Rattle.trees.proofs.Rows.{length-written, count_more}
use Rattle.trees.proofs.Ascent.{Over, over_leaf, over_next, over_row, over_node}

ascend_next : (S : Shape) (w q j : ℕ) (s : Counted) → ascend S w q (j + 1) s ≡ write_node S w (number_of S w q j / S.arity) (ascend S w q j s)
unfolding ascend
ascend_next S w q j s = ap (λ (i : ℕ). ascend S w q i s) (add-one j)

-- the nodes below a level over the place q are rewritten in the store that the climb began with
pub record Climbed (d : Dimensions) (D C : List ℕ) (q : ℕ) (begun : List ℕ) (count level number : ℕ) (store : List ℕ) (made : ℕ) : Type 0 where
  pub over : Over d D C (length store) q level number
  pub counts : made ≡ count + level
  pub is : counted store made ≡ ascend (tree d D C) (d.arity ^ d.height) q level (counted begun count)

module _ {d : Dimensions} (D C : List ℕ) {q : ℕ} (leaf old : List ℕ) (count : ℕ) (v : ValidNumbers d) (inside : q < d.arity ^ d.height) (lf : length leaf ≡ d.node_size)
    (lo : length old ≡ size (tree d D C) d.height) where
  pub leaf_inside : q * d.node_size + d.node_size ≤ length old
  leaf_inside = omega (arith, leaf_fits (tree d D C) (regular v D C) d.height q inside leaf old lf lo)

  module _ (begun : List ℕ) (e : begun ≡ put old (q * d.node_size) (part 0 d.node_size leaf)) where
    leaf_put : begun ≡ put old (q * d.node_size) leaf
    leaf_put = e ∙ ap (put old (q * d.node_size)) (take_all d.node_size leaf (omega arith))

    pub climbed_none : Climbed d D C q begun count 0 q begun count
    unfolding ascend
    climbed_none =
        let g : length begun ≡ size (tree d D C) d.height = ap length leaf_put ∙ length-put old (q * d.node_size) leaf (omega (arith, leaf_inside)) ∙ lo in
        record { over = over_leaf v g inside; counts = omega arith; is = refl }

    pub climbed_all : {level number : ℕ} {store : List ℕ} {made : ℕ} → Climbed d D C q begun count level number store made → d.height ≤ level
        → counted store made ≡ replace_from (tree d D C) d.height q leaf (counted old count)
    climbed_all {level} {number} {store} {made} K b =
        let f : level ≡ d.height = omega (arith, K.over.levels) in
        K.is
        ∙ ap (λ (j : ℕ). ascend (tree d D C) (d.arity ^ d.height) q j (counted begun count)) f
        ∙ ap (λ (z : List ℕ). ascend (tree d D C) (d.arity ^ d.height) q d.height (counted z count)) leaf_put
        ∙ sym (replace_ascend (tree d D C) (regular v D C) d.height q inside leaf (counted old count) lf lo)

module _ {d : Dimensions} {D C : List ℕ} {q : ℕ} {begun : List ℕ} {count level number made : ℕ} (store : List ℕ) (K : Climbed d D C q begun count level number store made)
    (b : level < d.height) (w : ℕ) (e : w ≡ d.arity ^ d.height) (after : List ℕ) (next : ℕ)
    (f : after ≡ (write_node (tree d D C) w (number / d.arity) (counted store made)).store) (g : next ≡ (write_node (tree d D C) w (number / d.arity) (counted store made)).made) where
  length-after : length after ≡ length store
  length-after =
      ap length f ∙ length-written (tree d D C) (regular K.over.numbers D C) store (number / d.arity) (over_row K.over b) w made (over_node K.over b w e)

  pub climbed_more : Climbed d D C q begun count (level + 1) (w + number / d.arity) after next
  climbed_more =
      let S = tree d D C in
      let h : counted after next ≡ write_node S w (number / d.arity) (counted store made) = λ i. counted (f i) (g i) in
      record {
        over = rw length-after (over_next K.over b w e);
        counts = omega (arith, g ∙ count_more S (regular K.over.numbers D C) w (number / d.arity) (counted store made), K.counts);
        is =
            h
            ∙ ap (λ (m : ℕ). write_node S m (number / d.arity) (counted store made)) e
            ∙ ap (λ (n : ℕ). write_node S (d.arity ^ d.height) (n / d.arity) (counted store made)) K.over.is
            ∙ ap (write_node S (d.arity ^ d.height) (number_of S (d.arity ^ d.height) q level / d.arity)) K.is
            ∙ sym (ascend_next S (d.arity ^ d.height) q level (counted begun count));
      }
