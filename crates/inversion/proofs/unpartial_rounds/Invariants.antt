-- The loop's invariant: the rounds from i on are undone, and the numbers stand for what is left.
use mathlib.Core.Path.{◌≡◌}
use Prim.Native.Nat.{◌≤◌}
use lib.ListN.{length, take}
use Rattle.fields.specs.Prime.{prime}
use Rattle.poseidon2.specs.Residues.{residues}
use Rattle.inversion.proofs.Rounds.{partial_from}
use Rattle.inversion.proofs.unpartial_rounds.Given as goal

abbrev pub invariant-loop-i : goal.invariant-loop-i
invariant-loop-i l = (l.i ≤ l.rounds) × (residues prime l.state ≡ partial_from (take (length l.initial.state) l.inverses) l.total_inverse l.constants l.at l.rounds l.initial.state l.i) × (length l.state ≡ length l.initial.state)
