-- No more are counted than were damaged.
use Rattle.std.proofs.Common.{◌+◌, ◌≤◌}
use Rattle.tree_vectors.proofs.trees_section.damaged_verdicts.Given as goal

abbrev pub invariant-loop-at : goal.invariant-loop-at
invariant-loop-at l = l.accepted + l.rejected ≤ l.at
