-- The storeless root: nodes from rows, and rows from nodes.
use mathlib.Core.Path.{◌≡◌, sym, ap, ap₂, ◌∙◌}
use mathlib.Core.List.{List, ◌++◌}
use Prim.Native.Nat.{ℕ, suc, ◌+◌, ◌*◌, ◌-◌, ◌^◌, ◌≤◌, ◌<◌}
use native.Mathlib.Nat.{mul_comm, zero-mul, suc-mul, add-mul, mul-le-mul_right, pow-le-pow_right}
use native.Mathlib.Omega.{arith}
use lib.ListN.{length, take}
use Rattle.merkle.specs.Lists.{part, put}
use Rattle.merkle.specs.Storeless.{node_of, row_of, storeless_root}
use Rattle.merkle.proofs.Lists.{put_whole, joined_same, joined_parts}
use Rattle.merkle.proofs.Levels.{fits, count_down, count_root}
use Rattle.merkle.proofs.Storeless.{node_from_row, row_from_none, row_from_nodes, length-node_of}
use Rattle.trees.specs.declared.Dimensions.{Dimensions}
use Rattle.trees.specs.Shapes.{tree, ValidSet}
use Rattle.storeless.specs.Within.{Within}
use Rattle.trees.proofs.Shapes.{regular, width_small}

module _ {d : Dimensions} {C leaves : List ℕ} where
  -- n leaves are there, and one
  pub at_leaves : {j f n : ℕ} → Within d C leaves j f n → j ≡ 0 → f * d.node_size + n * d.node_size ≤ length leaves
  at_leaves {j} {f} {n} w e =
      let z : d.height - j ≡ d.height = omega arith in
      let b : f + n ≤ d.arity ^ d.height = omega (arith, w.nodes, ap (λ (a : ℕ). d.arity ^ a) z) in
      omega (arith, mul-le-mul_right d.node_size b, add-mul f n d.node_size, w.leaf_words)

  pub at_leaf : {j i : ℕ} → Within d C leaves j i 1 → j ≡ 0 → i * d.node_size + d.node_size ≤ length leaves
  at_leaf w e = omega (arith, at_leaves w e)

  -- a node's row is there
  pub at_row : {j i : ℕ} (m : ℕ) → j ≡ suc m → Within d C leaves j i 1 → Within d C leaves m (d.arity * i) d.arity
  at_row {j} {i} m e w =
      let k = d.arity in
      let b : m < d.height = omega (arith, w.levels) in
      let f : d.height - j ≡ d.height - suc m = omega arith in
      let n : i < k ^ (d.height - suc m) = omega (arith, w.nodes, ap (λ (a : ℕ). k ^ a) f) in
      record {
        set = w.set;
        leaf_words = w.leaf_words;
        levels = omega arith;
        nodes = omega (arith, fits k (k ^ (d.height - suc m)) i n, mul_comm k i, count_down (tree d C C) (regular w.set.numbers C C) d.height m b);
        row = omega arith;
      }

  fewer : {j f n : ℕ} (g m : ℕ) → Within d C leaves j f n → g + m ≤ f + n → m ≤ n → Within d C leaves j g m
  fewer g m w a b = record { set = w.set; leaf_words = w.leaf_words; levels = w.levels; nodes = omega (arith, w.nodes); row = omega (arith, w.row) }

  -- the nodes but the last, and the last
  pub at_fewer : {j f n : ℕ} (m : ℕ) → n ≡ suc m → Within d C leaves j f n → Within d C leaves j f m
  at_fewer {j} {f} {n} m e w = fewer f m w (omega arith) (omega arith)

  pub at_last : {j f n : ℕ} (m : ℕ) → n ≡ suc m → Within d C leaves j f n → Within d C leaves j (f + m) 1
  at_last {j} {f} {n} m e w = fewer (f + m) 1 w (omega arith) (omega arith)

  -- nodes are numbered below 2^32
  pub place_small : {j f n : ℕ} → Within d C leaves j f n → f + n ≤ 4294967296
  place_small {j} w =
      let one : 1 ≤ d.arity = omega (arith, w.set.numbers.several) in
      omega (arith, w.nodes, w.set.numbers.few, pow-le-pow_right one {i = d.height - j} {j = d.height} (omega arith))

  -- n nodes' words are at most a row's
  pub row_fits : {j f n : ℕ} → Within d C leaves j f n → n * d.node_size ≤ 12
  row_fits w = omega (arith, mul-le-mul_right d.node_size w.row, width_small w.set.numbers)

  -- the last node's words are among the row's
  pub in_row : {j f n : ℕ} (m : ℕ) → n ≡ suc m → Within d C leaves j f n → m * d.node_size + d.node_size ≤ 12
  in_row m e w =
      let b : m < d.arity = omega (arith, w.row) in
      omega (arith, fits d.node_size d.arity m b, width_small w.set.numbers)

  -- the root is the one node of level h
  pub at_root : ValidSet d C → length leaves ≡ d.arity ^ d.height * d.node_size → Within d C leaves d.height 0 1
  at_root v e =
      record {
        set = v;
        leaf_words = e;
        levels = omega arith;
        nodes = omega (arith, count_root (tree d C C) (regular v.numbers C C) d.height);
        row = omega (arith, v.numbers.several);
      }

-- the nodes and rows that the functions come to
module _ (d : Dimensions) (D C leaves : List ℕ) where
  pub node_leaf : {j : ℕ} (i : ℕ) (r : List ℕ) → j ≡ 0 → take d.node_size r ≡ part (i * d.node_size) d.node_size leaves
      → take d.node_size r ≡ node_of (tree d D C) leaves j i
  unfolding node_of
  node_leaf i r e f = rw e f

  pub node_row : {j : ℕ} (i : ℕ) (m : ℕ) (x r : List ℕ) → j ≡ suc m → take (d.arity * d.node_size) x ≡ row_of (tree d D C) leaves m (d.arity * i) d.arity
      → take d.node_size r ≡ (tree d D C).compress (take (d.arity * d.node_size) x) → take d.node_size r ≡ node_of (tree d D C) leaves j i
  node_row i m x r e f g = rw e (g ∙ ap (tree d D C).compress f ∙ sym (node_from_row (tree d D C) leaves m i))

  -- leaves follow each other, as their words do
  pub row_leaves : {j : ℕ} (f n : ℕ) (r : List ℕ) → j ≡ 0 → take (n * d.node_size) r ≡ part (f * d.node_size) (n * d.node_size) leaves
      → take (n * d.node_size) r ≡ row_of (tree d D C) leaves j f n
  unfolding node_of row_of
  row_leaves f n r e g =
      let l = d.node_size in
      rw e (g
      ∙ sym
      (joined_same (λ c. part ((f + c) * l) l leaves) (λ c. part (f * l + c * l) l leaves) n (λ c b. ap (λ (a : ℕ). part a l leaves) (add-mul f c l))
      ∙ joined_parts (f * l) l leaves n))

  pub refusal_none : (j f : ℕ) {n : ℕ} (r : List ℕ) → n ≡ 0 → take (n * d.node_size) r ≡ row_of (tree d D C) leaves j f n
  refusal_none j f r e =
      let z : 0 * d.node_size ≡ 0 = zero-mul d.node_size in
      rw e (ap (λ (a : ℕ). take a r) z ∙ sym (row_from_none (tree d D C) leaves j f))

  pub row_more : (j f : ℕ) {n : ℕ} (m : ℕ) (x y r : List ℕ) → n ≡ suc m → take (m * d.node_size) x ≡ row_of (tree d D C) leaves j f m
      → take d.node_size y ≡ node_of (tree d D C) leaves j (f + m) → take (m * d.node_size + d.node_size) r ≡ take (m * d.node_size) x ++ take d.node_size y
      → take (n * d.node_size) r ≡ row_of (tree d D C) leaves j f n
  row_more j f m x y r e g h i =
      rw (e, suc-mul m d.node_size) (i ∙ ap₂ (λ (a b : List ℕ). a ++ b) g h ∙ sym (row_from_nodes (tree d D C) leaves j f m))

  length-root : ValidSet d C → length leaves ≡ d.arity ^ d.height * d.node_size → length (storeless_root (tree d D C) d.height leaves) ≡ d.node_size
  unfolding storeless_root
  length-root v e =
      let G = regular v.numbers D C in
      length-node_of (tree d D C) G d.height leaves e d.height 0 (omega arith) (omega (arith, count_root (tree d D C) G d.height))

  -- and it is copied over a node
  pub root_copied : ValidSet d C → length leaves ≡ d.arity ^ d.height * d.node_size → (x node after : List ℕ) → length node ≡ d.node_size
      → take d.node_size x ≡ node_of (tree d D C) leaves d.height 0 → after ≡ put node 0 (part 0 d.node_size x)
      → after ≡ storeless_root (tree d D C) d.height leaves
  unfolding storeless_root
  root_copied v e x node after n f g = g ∙ ap (put node 0) f ∙ put_whole node (node_of (tree d D C) leaves d.height 0) (length-root v e ∙ sym n)
