-- The loop keeps what that of `each` keeps by this phase, over the records of the list; the tally stays.
use Rattle.records.specs.Listed.{listed}
use Rattle.passes.proofs.Turns.{Reached}
use Rattle.passes.proofs.mark_listed.Given as goal

abbrev pub invariant-loop-part : goal.invariant-loop-part
invariant-loop-part l = Reached l.set 1 (listed l.numbers) l.tally l.initial.store l.part-index l.tally l.store
