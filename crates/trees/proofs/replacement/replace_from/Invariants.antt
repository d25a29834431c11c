-- The nodes of the levels below are rewritten and counted.
use Rattle.trees.proofs.Climb.{Climbed}
use Rattle.trees.proofs.replacement.replace_from.Given as goal

abbrev pub invariant-loop : goal.invariant-loop
invariant-loop l = Climbed l.d l.diagonal l.constants l.place l.initial.store l.count l.counter l.number l.store l.made
