use mathlib.Core.Path.{ap}
use Prim.Native.Nat.{◌<◌}
use native.Mathlib.Omega.{arith}
use Rattle.merkle.specs.Replacement.{Counted}
use Rattle.trees.proofs.Ascent.{over_row, over_node}
use Rattle.trees.proofs.Climb.{leaf_inside, climbed_none, climbed_all, climbed_more}
use Rattle.trees.proofs.replacement.replace_from.Goals as goal

pub copy_words-requires : goal.copy_words-requires
copy_words-requires c =
    let a = c.args in
    (omega (arith, c.requires.3), leaf_inside a.diagonal.now a.constants.now a.leaf.now a.store.now a.count c.requires.0.numbers c.requires.2 c.requires.3 c.requires.1)

pub loop-init : goal.loop-init
loop-init c =
    let a = c.args in
    climbed_none a.diagonal.now a.constants.now a.leaf.now a.store.now a.count c.requires.0.numbers c.requires.2 c.requires.3 c.requires.1 _ c.copy_words.ensures

pub rewrite_node-made-requires : goal.rewrite_node-made-requires
rewrite_node-made-requires c =
    let b : c.loop.counter < c.args.d.height = c.loop-test.true in
    (c.requires.0, over_row c.loop.invariant.over b, over_node c.loop.invariant.over b c.leaf_count-leaves.result c.leaf_count-leaves.ensures, omega (arith, c.loop.invariant.counts, c.requires.4))

pub loop-preserved : goal.loop-preserved
loop-preserved c =
    let b : c.loop.counter < c.args.d.height = c.loop-test.true in
    climbed_more c.loop.store c.loop.invariant b c.leaf_count-leaves.result c.leaf_count-leaves.ensures _ _ c.rewrite_node-made.ensures.0 c.rewrite_node-made.ensures.1

pub returns : goal.returns
returns c =
    let a = c.args in
    let e = climbed_all a.diagonal.now a.constants.now a.leaf.now a.store.now a.count c.requires.0.numbers c.requires.2 c.requires.3 c.requires.1 _ c.copy_words.ensures c.loop.invariant c.loop-test.false in
    (ap (λ (s : Counted). s.store) e, ap (λ (s : Counted). s.made) e)
