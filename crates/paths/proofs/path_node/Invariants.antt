-- The node of level j is in the first places.
use Rattle.paths.proofs.Verdict.{Walked}
use Rattle.paths.proofs.path_node.Given as goal

abbrev pub invariant-loop-j : goal.invariant-loop-j
invariant-loop-j l = Walked l.d l.diagonal l.constants l.place l.leaf l.siblings l.j l.own l.number
