use Rattle.std.proofs.Common.{◌≡◌, ◌^◌}
use Rattle.trees.proofs.sizes.leaf_count.Given as goal

abbrev pub invariant-loop : goal.invariant-loop
invariant-loop l = l.leaves ≡ l.arity ^ l.counter
