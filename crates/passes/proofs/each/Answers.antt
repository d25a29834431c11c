use Rattle.std.proofs.Common.{arith}
use Rattle.passes.proofs.Turns.{reached_next, reached_all}
use Rattle.passes.proofs.each.Goals as goal

pub loop-i-preserved : goal.loop-i-preserved
loop-i-preserved g c =
    reached_next _ _ _ _ _ _ _ _ c.loop-i.invariant (omega (arith, c.count-i-end.ensures)) _ c.record.ensures _ _ c.step-sum.ensures c.step-sum.auto.buffer

pub returns : goal.returns
returns g c = reached_all _ _ _ _ _ _ _ _ c.loop-i.invariant (omega (arith, c.count-i-end.ensures))
