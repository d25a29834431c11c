use native.Mathlib.Omega.{arith}
use Rattle.passes.proofs.Rising.{levels_begin, level_asks, next_asks, level_next, levels_end}
use Rattle.passes.proofs.rise.Goals as goal

pub loop-init : goal.loop-init
loop-init g c = levels_begin _ _ _ _ c.requires

pub each-passed-requires : goal.each-passed-requires
each-passed-requires g c =
    level_asks _ _ _ _ c.requires _ (omega (arith, c.loop-test.true, c.by_records-end.ensures)) _ _ c.loop.invariant

pub next-sum-requires : goal.next-sum-requires
next-sum-requires g c =
    next_asks _ _ _ _ c.requires _ (omega (arith, c.loop-test.true, c.by_records-end.ensures)) _ _ c.loop.invariant _ _ c.each-passed.ensures

pub loop-preserved : goal.loop-preserved
loop-preserved g c =
    level_next _ _ _ _ c.requires _ (omega (arith, c.loop-test.true, c.by_records-end.ensures)) _ _ c.loop.invariant _ _ c.each-passed.ensures
    c.each-passed.auto.buffer _ c.next-sum.ensures

pub returns : goal.returns
returns g c =
    levels_end _ _ _ _ c.requires _ (omega (arith, c.loop-test.false, c.by_records-end.ensures)) _ _ c.loop.invariant
