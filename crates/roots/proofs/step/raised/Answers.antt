use native.Mathlib.Omega.{arith}
use Rattle.blocks.specs.Blocks.{flat}
use Rattle.roots.proofs.Chain.{squared_none, squared_more, squared_times}
use Rattle.roots.proofs.step.raised.Goals as goal

pub loop-init : goal.loop-init
loop-init g c = squared_none _

pub loop-preserved : goal.loop-preserved
loop-preserved g c = squared_more c.loop.counter (flat g.row.B c.squares-r.result) c.loop.invariant c.squares-r.ensures

pub returns : goal.returns
returns g c =
    squared_times c.loop.counter c.args.n (flat g.row.B c.args.y) (flat g.row.B c.times.result) (omega arith) c.loop.invariant c.times.ensures
