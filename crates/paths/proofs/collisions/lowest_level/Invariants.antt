-- The nodes of level j are in the first places, and no level below has a collision.
use Rattle.paths.proofs.Search.{Climbed}
use Rattle.paths.proofs.collisions.lowest_level.Given as goal

abbrev pub invariant-loop-j : goal.invariant-loop-j
invariant-loop-j l = Climbed l.d l.diagonal l.constants l.place l.first l.first_siblings l.second l.second_siblings l.j l.own l.other l.number
