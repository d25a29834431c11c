use Rattle.std.proofs.Common.{arith}
use Rattle.blocks.proofs.Sums.{others_alone, others_more}
use Rattle.layers.proofs.partial.others.Goals as goal

pub loop-i-init : goal.loop-i-init
loop-i-init g c = (omega arith, omega arith, omega arith, omega (arith, others_alone c.args.s))

pub loop-i-preserved : goal.loop-i-preserved
loop-i-preserved g c = (omega arith, omega arith, omega arith, omega (arith, others_more c.loop-i.i c.args.s))
