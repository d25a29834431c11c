-- The loop's invariant: the numbers from i on are added up.
use Prim.Native.Nat.{◌≤◌}
use lib.ListN.{length, drop}
use Rattle.modular.specs.Congruence.{◌≈⟨◌⟩◌}
use Rattle.fields.specs.Prime.{prime}
use Rattle.poseidon2.specs.Layers.{sum}
use Rattle.inversion.proofs.internal.sum_of.Given as goal

abbrev pub invariant-loop-i : goal.invariant-loop-i
invariant-loop-i l = (l.i ≤ length l.state) × (l.total ≈⟨ prime ⟩ sum (drop l.i l.state))
