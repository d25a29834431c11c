use mathlib.Core.Path.{sym, ap₂, ◌∙◌}
use mathlib.Core.List.{[]}
use Prim.Native.Nat.{ℕ, ◌+◌, ◌*◌, ◌≤◌}
use native.Mathlib.Omega.{arith}
use Rattle.merkle.proofs.Numbering.{size_inner}
use Rattle.trees.specs.Shapes.{tree}
use Rattle.trees.proofs.Shapes.{regular, node_small}
use Rattle.trees.proofs.Counts.{inner_few, size_small}
use Rattle.trees.proofs.sizes.store_size.Goals as goal

pub overflow_add-result : goal.overflow_add-result
overflow_add-result c =
    let a = c.args in
    omega (arith, c.leaf_count.ensures, c.inner_count.ensures [] [], inner_few (tree a.d [] []) (regular c.requires [] []) a.d.height, c.requires.few)

pub overflow_mul-result : goal.overflow_mul-result
overflow_mul-result c =
    let a = c.args in
    let S = tree a.d [] [] in
    let e : (c.leaf_count.result + c.inner_count.result) * a.d.node_size ≤ 51539607552 =
    rw (c.leaf_count.ensures, c.inner_count.ensures [] []) (size_small S (regular c.requires [] []) a.d.height c.requires.few (node_small c.requires)) in
    omega arith

pub returns : goal.returns
returns c =
    let a = c.args in
    λ D C. ap₂ (λ (w n : ℕ). (w + n) * a.d.node_size) c.leaf_count.ensures (c.inner_count.ensures D C) ∙ sym (size_inner (tree a.d D C) (regular c.requires D C) a.d.height)
