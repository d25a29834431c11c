-- What the loop keeps of the records (Rising).
use Rattle.passes.proofs.Rising.{Reached}
use Rattle.passes.proofs.rise.Given as goal

abbrev pub invariant-loop : goal.invariant-loop
invariant-loop g l = Reached l.set (g.R.Records.list l.records) l.initial.sum l.initial.store l.counter l.sum l.store
