-- The loop's invariant: the rounds from i on are undone.
use mathlib.Core.Path.{◌≡◌}
use Prim.Native.Nat.{◌≤◌}
use lib.ListN.{length}
use Rattle.fields.specs.Prime.{prime}
use Rattle.poseidon2.specs.Statements.{State}
use Rattle.inversion.proofs.Rounds.{full_from}
use Rattle.inversion.proofs.unfull_rounds.Given as goal

abbrev pub invariant-loop-i : goal.invariant-loop-i
invariant-loop-i l = (l.i ≤ l.rounds) × (l.state ≡ full_from (length l.initial.state) l.constants l.at l.rounds l.initial.state l.i) × State prime (length l.initial.state) l.state
