use Prim.Native.Nat.{◌<◌}
use native.Mathlib.Omega.{arith}
use Rattle.merkle.specs.Numbering.{inner}
use Rattle.trees.specs.Shapes.{tree}
use Rattle.trees.proofs.Filling.{built_none, next_node, next_row, built_more, built_all, leaves_fit}
use Rattle.trees.proofs.building.build.Goals as goal

pub copy_words-requires : goal.copy_words-requires
copy_words-requires c =
    let a = c.args in
    (omega arith, omega (arith, leaves_fit a.d a.diagonal.now a.constants.now a.leaves.now c.requires.0 c.requires.1, c.requires.2))

pub loop-n-init : goal.loop-n-init
loop-n-init c =
    let a = c.args in
    built_none c.requires.0 c.requires.1 a.store.now _ c.requires.2 c.copy_words.ensures

pub rewrite_node-requires : goal.rewrite_node-requires
rewrite_node-requires c =
    let a = c.args in
    let b : c.loop-n.n < inner (tree a.d a.diagonal.now a.constants.now) a.d.height = rw (c.inner_count-inner.ensures a.diagonal.now a.constants.now) at c.loop-n-test.true in
    (c.loop-n.invariant.set, next_row c.loop-n.invariant c.leaf_count-count.result c.leaf_count-count.ensures b, next_node c.loop-n.invariant c.leaf_count-count.result c.leaf_count-count.ensures b, omega arith)

pub loop-n-preserved : goal.loop-n-preserved
loop-n-preserved c =
    let a = c.args in
    let b : c.loop-n.n < inner (tree a.d a.diagonal.now a.constants.now) a.d.height = rw (c.inner_count-inner.ensures a.diagonal.now a.constants.now) at c.loop-n-test.true in
    built_more c.loop-n.invariant c.leaf_count-count.result c.leaf_count-count.ensures b _ c.rewrite_node.ensures.0

pub returns : goal.returns
returns c =
    let a = c.args in
    built_all c.loop-n.invariant (omega (arith, c.inner_count-inner.ensures a.diagonal.now a.constants.now, c.loop-n-test.false))
