-- The loop goes up from the place, node by node, until it meets a mark.
use Rattle.marks.proofs.Marks.{Rising}
use Rattle.marks.proofs.marking.mark_above.Given as goal

abbrev pub invariant-loop : goal.invariant-loop
invariant-loop l = Rising l.d l.place l.initial.store l.counter l.number l.store
