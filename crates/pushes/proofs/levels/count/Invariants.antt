use Rattle.pushes.proofs.Ranks.{Counting}
use Rattle.pushes.proofs.levels.count.Given as goal

abbrev pub invariant-loop-level : goal.invariant-loop-level
invariant-loop-level l = Counting l.arity l.height l.places l.most l.level l.nodes
