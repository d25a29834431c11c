-- What the loop keeps of the records (Turns).
use Rattle.pushes.specs.Passes.{phase_number}
use Rattle.passes.proofs.Turns.{Reached}
use Rattle.passes.proofs.each.Given as goal

abbrev pub invariant-loop-i : goal.invariant-loop-i
invariant-loop-i g l = Reached l.set (phase_number l.phase) (g.R.Records.list l.records) l.initial.sum l.initial.buffer l.i l.sum l.buffer
