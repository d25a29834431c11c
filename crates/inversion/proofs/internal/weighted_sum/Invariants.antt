-- The loop's invariant: the products from block i on are added up.
use Prim.Native.Nat.{◌*◌, ◌≤◌}
use lib.ListN.{length}
use Rattle.modular.specs.Congruence.{◌≈⟨◌⟩◌}
use Rattle.fields.specs.Prime.{prime}
use Rattle.poseidon2.specs.Residues.{residues}
use Rattle.inversion.proofs.Sums.{dot_from}
use Rattle.inversion.proofs.internal.weighted_sum.Given as goal

abbrev pub invariant-loop-i : goal.invariant-loop-i
invariant-loop-i l = (4 * l.i ≤ length l.state) × (l.total ≈⟨ prime ⟩ dot_from l.inverses (residues prime l.state) (length l.state) (4 * l.i))
