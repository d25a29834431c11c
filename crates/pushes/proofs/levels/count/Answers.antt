use native.Mathlib.Omega.{arith}
use Rattle.pushes.proofs.Ranks.{counting_ends, counting_more, counting_all}
use Rattle.pushes.proofs.levels.count.Goals as goal

pub returns-then-nodes-most : goal.returns-then-nodes-most
returns-then-nodes-most c = counting_ends c.loop-level.invariant c.loop-level-test.true c.if-nodes-most.true

pub loop-level-preserved : goal.loop-level-preserved
loop-level-preserved c = counting_more c.loop-level.invariant c.loop-level-test.true (omega (arith, c.if-nodes-most.false))

pub returns : goal.returns
returns c = omega (arith, counting_all c.loop-level.invariant c.loop-level-test.false)
