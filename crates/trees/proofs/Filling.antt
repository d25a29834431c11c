-- Building, node by node: what its loop keeps.
use mathlib.Core.Path.{◌≡◌, sym, ap, subst, ◌∙◌}
use mathlib.Core.List.{List}
use Prim.Native.Nat.{ℕ, ◌+◌, ◌*◌, ◌-◌, ◌^◌, ◌≤◌, ◌<◌}
use native.Mathlib.Numerals.{add-one}
use native.Mathlib.Omega.{arith}
use lib.ListN.{length, drop}
use lib.Seq.{take-length}
use Rattle.merkle.specs.Levels.{size, build, root}
use Rattle.merkle.specs.Lists.{part, put}
use Rattle.merkle.specs.Numbering.{inner, write_node}
use Rattle.merkle.proofs.Lists.{put_whole}
use Rattle.merkle.proofs.Numbering.{Filled, filled_none, filled_more, filled_all, row_before, node_inside, size_inner}
use native.Mathlib.Nat.{add-mul}
use Rattle.trees.specs.declared.Dimensions.{Dimensions}
use Rattle.trees.specs.Shapes.{tree, ValidSet, counted}
use Rattle.trees.proofs.Shapes.{regular}

-- n nodes above the leaves are written
pub record Built (d : Dimensions) (D C leaves : List ℕ) (n : ℕ) (store : List ℕ) : Type 0 where
  pub set : ValidSet d C
  pub leaf_words : length leaves ≡ d.arity ^ d.height * d.node_size
  pub within : n ≤ inner (tree d D C) d.height
  pub filled : Filled (tree d D C) (regular set.numbers D C) d.height leaves leaf_words n store

module _ {d : Dimensions} {D C leaves : List ℕ} where
  -- the leaves are copied
  pub built_none : (v : ValidSet d C) → length leaves ≡ d.arity ^ d.height * d.node_size → (old store : List ℕ) → length old ≡ size (tree d D C) d.height
      → store ≡ put old 0 (part 0 (length leaves) leaves) → Built d D C leaves 0 store
  built_none v N old store e f =
      record {
        set = v;
        leaf_words = N;
        within = omega arith;
        filled = rw (f ∙ ap (put old 0) (take-length leaves)) (filled_none (tree d D C) (regular v.numbers D C) d.height leaves N old e);
      }

  module _ {n : ℕ} {store : List ℕ} (B : Built d D C leaves n store) (w : ℕ) (e : w ≡ d.arity ^ d.height) (b : n < inner (tree d D C) d.height) where
    -- the node that is written next is inside, and its row
    pub next_node : (w + n) * d.node_size + d.node_size ≤ length store
    next_node = rw e (omega (arith, node_inside (tree d D C) (regular B.set.numbers D C) d.height n b, B.filled.whole))

    pub next_row : n * (d.arity * d.node_size) + d.arity * d.node_size ≤ length store
    next_row =
        omega (arith, row_before (tree d D C) (regular B.set.numbers D C) d.height n b, node_inside (tree d D C) (regular B.set.numbers D C) d.height n b, B.filled.whole)

    pub built_more : (after : List ℕ) → after ≡ (write_node (tree d D C) w n (counted store 0)).store → Built d D C leaves (n + 1) after
    unfolding write_node
    built_more after f =
        record {
          set = B.set;
          leaf_words = B.leaf_words;
          within = omega arith;
          filled =
              rw (f, e, add-one n)
              (filled_more (tree d D C) (regular B.set.numbers D C) d.height leaves B.leaf_words n store b B.filled);
        }

  pub built_all : {n : ℕ} {store : List ℕ} → Built d D C leaves n store → inner (tree d D C) d.height ≤ n → store ≡ build (tree d D C) d.height leaves
  built_all {n} {store} B b =
      let S = tree d D C in
      let G = regular B.set.numbers D C in
      let e : n ≡ inner S d.height = omega (arith, B.within) in
      filled_all S G d.height leaves B.leaf_words store (subst (λ (m : ℕ). Filled S G d.height leaves B.leaf_words m store) e B.filled)

-- the last node of a store, copied over a node
pub root_copied : (d : Dimensions) (store node after : List ℕ) → d.node_size ≤ length store → length node ≡ d.node_size
    → after ≡ put node 0 (part (length store - d.node_size) d.node_size store) → (D C : List ℕ) → after ≡ root (tree d D C) store
unfolding root
root_copied d store node after b e f D C =
    let v : List ℕ = drop (length store - d.node_size) store in
    let lv : length v ≡ d.node_size = omega (arith, lib.ListN.length-drop (length store - d.node_size) store) in
    f ∙ ap (put node 0) (lib.Seq.take_all d.node_size v (omega arith)) ∙ put_whole node v (lv ∙ sym e)

-- the leaves are inside a store
pub leaves_fit : (d : Dimensions) (D C leaves : List ℕ) → ValidSet d C → length leaves ≡ d.arity ^ d.height * d.node_size → length leaves ≤ size (tree d D C) d.height
leaves_fit d D C leaves v e =
    let S = tree d D C in
    omega (arith, size_inner S (regular v.numbers D C) d.height, add-mul (d.arity ^ d.height) (inner S d.height) d.node_size)
