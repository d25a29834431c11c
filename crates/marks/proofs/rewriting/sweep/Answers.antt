use Prim.Native.Nat.{◌<◌}
use native.Mathlib.Omega.{arith}
use Rattle.merkle.specs.Numbering.{inner}
use Rattle.trees.specs.Shapes.{tree}
use Rattle.trees.proofs.Counts.{inner_few}
use Rattle.trees.proofs.Shapes.{regular}
use Rattle.marks.proofs.Marks.{swept_none, swept_more, row_inside, node_there}
use Rattle.marks.proofs.rewriting.sweep.Goals as goal

pub loop-n-init : goal.loop-n-init
loop-n-init c = swept_none c.requires.1 c.requires.3

pub rewrite_marked-made-requires : goal.rewrite_marked-made-requires
rewrite_marked-made-requires c =
    let a = c.args in
    let v = c.requires.0.numbers in
    let K = c.loop-n.invariant in
    let b : c.loop-n.n < inner (tree a.d a.diagonal.now a.constants.now) a.d.height = rw (c.inner_count-inner.ensures a.diagonal.now a.constants.now) at c.loop-n-test.true in (
      c.requires.0,
      row_inside v a.diagonal.now a.constants.now c.loop-n.store K.whole c.loop-n.n b,
      node_there v a.diagonal.now a.constants.now c.loop-n.store K.whole c.loop-n.n b a.leaves c.requires.2,
      omega (arith, K.few, c.requires.4, c.requires.2, inner_few (tree a.d a.diagonal.now a.constants.now) (regular v a.diagonal.now a.constants.now) a.d.height),
    )

pub loop-n-preserved : goal.loop-n-preserved
loop-n-preserved c =
    let a = c.args in
    let b : c.loop-n.n < inner (tree a.d a.diagonal.now a.constants.now) a.d.height = rw (c.inner_count-inner.ensures a.diagonal.now a.constants.now) at c.loop-n-test.true in
    swept_more c.requires.0.numbers c.requires.2 c.loop-n.n c.loop-n.store c.loop-n.made c.loop-n.invariant b _ _ c.rewrite_marked-made.ensures.0 c.rewrite_marked-made.ensures.1
