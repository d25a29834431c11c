use Rattle.std.proofs.Common.{◌≡◌}
use Rattle.blocks.specs.Halves.{total}
use Rattle.layers.proofs.external.total.Given as goal

abbrev pub invariant-loop-k : goal.invariant-loop-k
invariant-loop-k g l = l.sum ≡ total l.k l.s
