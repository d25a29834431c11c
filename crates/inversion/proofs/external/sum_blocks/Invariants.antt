-- The loop's invariant: total is the sum of the blocks before block i.
use Rattle.fields.specs.Prime.{prime}
use Rattle.inversion.proofs.Flat.{Total}
use Rattle.inversion.proofs.external.sum_blocks.Given as goal

abbrev pub invariant-loop-i : goal.invariant-loop-i
invariant-loop-i g l = Total prime g.row.B l.x l.i l.total
