-- What the search keeps of the records (Searching).
use Rattle.passes.proofs.Searching.{Reached}
use Rattle.passes.proofs.search.Given as goal

abbrev pub invariant-loop-window : goal.invariant-loop-window
invariant-loop-window g l = Reached l.set (g.R.Records.list l.records) l.initial.sum l.window l.sum
