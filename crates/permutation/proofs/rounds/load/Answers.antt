use Rattle.std.proofs.Common.{arith}
use Rattle.blocks.proofs.Turns.{loaded_all}
use Rattle.permutation.proofs.rounds.load.Goals as goal

pub returns : goal.returns
returns g c = loaded_all g.row.B c.args.list.now c.loop-i.s c.args.at (λ k h. c.loop-i.invariant.at k (omega arith))
