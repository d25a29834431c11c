-- The nodes are gone through by their numbers.
use Rattle.marks.proofs.Marks.{Swept}
use Rattle.marks.proofs.rewriting.sweep.Given as goal

abbrev pub invariant-loop-n : goal.invariant-loop-n
invariant-loop-n l = Swept l.d l.diagonal l.constants l.leaves l.first l.initial.store l.count l.n l.store l.made
