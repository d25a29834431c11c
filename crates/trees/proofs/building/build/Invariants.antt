-- The first n nodes above the leaves are written.
use Rattle.trees.proofs.Filling.{Built}
use Rattle.trees.proofs.building.build.Given as goal

abbrev pub invariant-loop-n : goal.invariant-loop-n
invariant-loop-n l = Built l.d l.diagonal l.constants l.leaves l.n l.store
