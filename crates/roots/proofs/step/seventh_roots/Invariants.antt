-- The loop's invariant: what r and factor stand for after so many steps of the chain.
use Rattle.blocks.specs.Blocks.{flat}
use Rattle.roots.proofs.Steps.{After}
use Rattle.roots.proofs.step.seventh_roots.Given as goal

abbrev pub invariant-loop-squarings : goal.invariant-loop-squarings
invariant-loop-squarings g l =
    let words = flat g.row.B in After (words l.y) l.squarings-index (words l.r) (words l.factor)
