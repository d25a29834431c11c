-- The row that the code makes of a path's node and its siblings is the path's row.
use mathlib.Core.Path.{◌≡◌, sym, ap₂, ◌∙◌}
use mathlib.Core.List.{List}
use Prim.Native.Nat.{ℕ, ◌*◌, ◌-◌, ◌/◌, ◌%◌, ◌^◌, ◌≤◌}
use native.Mathlib.Nat.{pow-zero, pow-le-pow_right}
use native.Mathlib.Omega.{arith}
use lib.ListN.{length, take}
use Rattle.merkle.specs.Lists.{part, put}
use Rattle.merkle.specs.Openings.{put_back, row_with, siblings_at, path_node, path_row}
use Rattle.merkle.proofs.Lists.{put_whole, length_part}
use Rattle.trees.specs.declared.Dimensions.{Dimensions}
use Rattle.trees.specs.Shapes.{tree, ValidNumbers}

module _ (d : Dimensions) (D C : List ℕ) (q : ℕ) (leaf siblings : List ℕ) (j : ℕ) where
  pub row_made : (own : List ℕ) (number : ℕ) (row : List ℕ) → take d.node_size own ≡ path_node (tree d D C) q leaf siblings j → number ≡ q / d.arity ^ j
      → take (d.arity * d.node_size) row ≡ put_back (tree d D C) (number % d.arity) (take d.node_size own) (part (j * ((d.arity - 1) * d.node_size)) ((d.arity - 1) * d.node_size) siblings)
      → take (d.arity * d.node_size) row ≡ path_row (tree d D C) q leaf siblings j
  unfolding path_row row_with siblings_at
  row_made own number row is at e =
      let X : List ℕ = part (j * ((d.arity - 1) * d.node_size)) ((d.arity - 1) * d.node_size) siblings in
      e ∙ ap₂ (λ (n : ℕ) (z : List ℕ). put_back (tree d D C) (n % d.arity) z X) at is

-- what `leaf_count` asks at a level, and that its answer divides
module _ {d : Dimensions} (v : ValidNumbers d) (j : ℕ) where
  pub power_fits : j ≤ d.height → (1 ≤ d.arity) × (d.arity ^ j ≤ 4294967296)
  power_fits b =
      let one : 1 ≤ d.arity = omega (arith, v.several) in
      (one, omega (arith, pow-le-pow_right one {i = j} {j = d.height} b, v.few))

  pub power_some : 1 ≤ d.arity ^ j
  power_some =
      let one : 1 ≤ d.arity = omega (arith, v.several) in
      omega (arith, pow-zero d.arity, pow-le-pow_right one {i = 0} {j = j} (omega arith))

-- a whole list copied over from the head of another
pub row_copied : (row made : List ℕ) (w : ℕ) → length row ≡ w → w ≤ length made → put row 0 (part 0 w made) ≡ take w made
row_copied row made w e b = put_whole row (part 0 w made) (length_part 0 w made (omega arith) ∙ sym e)
