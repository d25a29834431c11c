-- The array is filled record by record, and its first are pushed.
use Rattle.adapters.proofs.Listed.{Filled}
use Rattle.adapters.proofs.pushing.push_list.Given as goal

abbrev pub invariant-loop-i : goal.invariant-loop-i
invariant-loop-i l = Filled l.numbers l.records l.i
