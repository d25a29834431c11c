-- The loop's invariant: r stands for x squared so many times.
use Prim.Native.Nat.{◌^◌}
use Rattle.blocks.specs.Blocks.{flat}
use Rattle.roots.proofs.Chain.{Stand}
use Rattle.roots.proofs.step.raised.Given as goal

abbrev pub invariant-loop : goal.invariant-loop
invariant-loop g l = Stand (2 ^ l.counter) (flat g.row.B l.fn.x) (flat g.row.B l.r)
