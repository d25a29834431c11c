-- The loop's invariant: the blocks before block i are written.
use Prim.Native.Nat.{◌*◌}
use Rattle.blocks.specs.Blocks.{flat}
use Rattle.inversion.proofs.Written.{Written}
use Rattle.inversion.proofs.external.write_blocks.Given as goal

abbrev pub invariant-loop-i : goal.invariant-loop-i
invariant-loop-i g l = Written (4 * g.row.B) (4 * l.i) (flat l.i l.x) l.state
