use Rattle.std.proofs.Common.{arith}
use Rattle.modular.specs.Goldilocks.{p}
use Rattle.blocks.proofs.Halves.{joins_all}
use Rattle.layers.proofs.external.join_blocks.Goals as goal

pub returns : goal.returns
returns g c = joins_all p g.row.B c.args.h c.args.l c.loop-i.joined (λ k h. c.loop-i.invariant.at k (omega arith))
