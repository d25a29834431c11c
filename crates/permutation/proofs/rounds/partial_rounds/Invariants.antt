use Rattle.std.proofs.Common.{◌*◌, take}
use Rattle.modular.specs.Goldilocks.{p}
use Rattle.blocks.specs.Blocks.{flat}
use Rattle.blocks.proofs.Turns.{Going}
use Rattle.permutation.proofs.rounds.partial_rounds.Given as goal

abbrev pub invariant-loop-i : goal.invariant-loop-i
invariant-loop-i g l = Going p (take (4 * g.row.B) l.diagonal) l.constants l.at l.n (flat g.row.B l.initial.s) l.i (flat g.row.B l.s)
