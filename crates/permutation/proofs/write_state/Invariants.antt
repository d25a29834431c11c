use Rattle.std.proofs.Common.{◌≡◌, ◌*◌, length}
use Rattle.std.proofs.Math.Seq.{paste}
use Rattle.blocks.specs.Blocks.{flat}
use Rattle.permutation.proofs.write_state.Given as goal

abbrev pub invariant-loop-i : goal.invariant-loop-i
invariant-loop-i g l = (length l.list ≡ length l.initial.list) × (l.list ≡ paste l.initial.list 0 (flat g.row.B l.s) (4 * l.i))
