use Rattle.std.proofs.Common.{◌-◌, ◌*◌}
use Rattle.modular.specs.Goldilocks.{p}
use Rattle.blocks.specs.Blocks.{flat}
use Rattle.blocks.proofs.Turns.{Turning}
use Rattle.permutation.proofs.rounds.full_rounds.Given as goal

abbrev pub invariant-loop-i : goal.invariant-loop-i
invariant-loop-i g l = Turning p (4 * g.row.B) l.at l.n l.constants (flat g.row.B l.initial.s) l.i (flat g.row.B l.s)

abbrev pub decreases-loop-i : goal.decreases-loop-i
decreases-loop-i g l = l.n - l.i
