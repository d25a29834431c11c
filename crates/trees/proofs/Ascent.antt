-- The node over a place by its number in the whole store: it and its row are inside.
use mathlib.Core.Path.{◌≡◌, refl, sym, ap}
use mathlib.Core.List.{List}
use Prim.Native.Nat.{ℕ, ◌+◌, ◌*◌, ◌/◌, ◌%◌, ◌^◌, ◌≤◌, ◌<◌}
use native.Mathlib.Nat.{mod-lt}
use native.Mathlib.Numerals.{add-one}
use native.Mathlib.Omega.{arith}
use Rattle.merkle.specs.Levels.{Shape, size}
use Rattle.merkle.specs.Numbering.{inner, number_of}
use Rattle.merkle.proofs.Numbering.{row_inner, row_before, node_inside}
use Rattle.trees.specs.declared.Dimensions.{Dimensions}
use Rattle.trees.specs.Shapes.{tree, ValidNumbers}
use Rattle.trees.proofs.Shapes.{regular}
use Rattle.trees.proofs.Rows.{number_small}

number_next : (S : Shape) (w q j : ℕ) → w + number_of S w q j / S.arity ≡ number_of S w q (j + 1)
unfolding number_of
number_next S w q j = sym (ap (number_of S w q) (add-one j))

-- the node of a level over the place q has this number, in a store of so many words
pub record Over (d : Dimensions) (D C : List ℕ) (words q level number : ℕ) : Type 0 where
  pub numbers : ValidNumbers d
  pub whole : words ≡ size (tree d D C) d.height
  pub inside : q < d.arity ^ d.height
  pub levels : level ≤ d.height
  pub is : number ≡ number_of (tree d D C) (d.arity ^ d.height) q level

module _ {d : Dimensions} {D C : List ℕ} {words q : ℕ} where
  pub over_leaf : ValidNumbers d → words ≡ size (tree d D C) d.height → q < d.arity ^ d.height → Over d D C words q 0 q
  unfolding number_of
  over_leaf v e b = record { numbers = v; whole = e; inside = b; levels = omega arith; is = refl }

  module _ {level number : ℕ} (O : Over d D C words q level number) where
    pub own_place : number % d.arity < d.arity
    own_place = mod-lt number (omega (arith, O.numbers.several))

    module _ (b : level < d.height) where
      row_number : number / d.arity < inner (tree d D C) d.height
      row_number = rw O.is (row_inner (tree d D C) (regular O.numbers D C) d.height q O.inside level b)

      pub over_row : number / d.arity * (d.arity * d.node_size) + d.arity * d.node_size ≤ words
      over_row =
          let G = regular O.numbers D C in
          omega (arith, row_before (tree d D C) G d.height (number / d.arity) row_number, node_inside (tree d D C) G d.height (number / d.arity) row_number, O.whole)

      module _ (w : ℕ) (e : w ≡ d.arity ^ d.height) where
        pub over_node : (w + number / d.arity) * d.node_size + d.node_size ≤ words
        over_node = rw e (omega (arith, node_inside (tree d D C) (regular O.numbers D C) d.height (number / d.arity) row_number, O.whole))

        pub over_small : w + number / d.arity < words
        over_small = number_small (tree d D C) (regular O.numbers D C) (w + number / d.arity) words over_node

        pub over_next : Over d D C words q (level + 1) (w + number / d.arity)
        over_next =
            record {
              numbers = O.numbers;
              whole = O.whole;
              inside = O.inside;
              levels = omega arith;
              is = rw (e, O.is) (number_next (tree d D C) (d.arity ^ d.height) q level);
            }
