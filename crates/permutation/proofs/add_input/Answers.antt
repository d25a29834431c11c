use Rattle.std.proofs.Common.{arith}
use Rattle.modular.specs.Goldilocks.{p}
use Rattle.blocks.proofs.Each.{made_more}
use Rattle.blocks.proofs.Slices.{added_all}
use Rattle.permutation.proofs.add_input.Goals as goal

pub loop-i-preserved : goal.loop-i-preserved
loop-i-preserved g c = made_more c.loop-i-test.true c.loop-i.invariant c.add_block.ensures

pub returns : goal.returns
returns g c = added_all p g.row.B c.args.s c.loop-i.added c.args.list.now c.args.at (λ k h. c.loop-i.invariant.at k (omega arith))
