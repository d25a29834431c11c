-- The siblings of the levels below are copied.
use mathlib.Core.Path.{◌≡◌}
use mathlib.Core.List.{[]}
use Prim.Native.Nat.{◌*◌, ◌-◌, ◌^◌}
use lib.ListN.{length, take}
use Rattle.merkle.specs.Numbering.{gather}
use Rattle.trees.specs.Shapes.{tree}
use Rattle.trees.proofs.Ascent.{Over}
use Rattle.trees.proofs.openings.open.Given as goal

abbrev pub invariant-loop-level : goal.invariant-loop-level
invariant-loop-level l = (Over l.d [] [] (length l.store) l.place l.level l.number)
    × (length l.siblings ≡ l.d.height * ((l.d.arity - 1) * l.d.node_size))
    × (take (l.level * ((l.d.arity - 1) * l.d.node_size)) l.siblings ≡ gather (tree l.d [] []) (l.d.arity ^ l.d.height) l.place l.store l.level)
