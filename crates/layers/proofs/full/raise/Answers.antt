use Rattle.std.proofs.Common.{arith}
use Rattle.modular.specs.Goldilocks.{p}
use Rattle.blocks.proofs.Lists.{raised_all}
use Rattle.layers.proofs.full.raise.Goals as goal

pub returns : goal.returns
returns g c =
    raised_all p g.row.B c.args.s c.loop-i.raised c.args.constants.now c.args.at (λ k h. c.loop-i.invariant.at k (omega arith))
