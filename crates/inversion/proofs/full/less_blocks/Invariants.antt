-- The loop's invariant: the blocks before block i are done.
use mathlib.Core.Path.{◌≡◌}
use Prim.Native.Nat.{ℕ, ◌<◌}
use lib.ListN.{length}
use Rattle.fields.specs.Prime.{prime}
use Rattle.inversion.proofs.Flat.{LessAt}
use Rattle.inversion.proofs.full.less_blocks.Given as goal

abbrev pub invariant-loop-i : goal.invariant-loop-i
invariant-loop-i g l =
    (length l.r ≡ g.row.B) × ((k : ℕ) → k < l.i → LessAt prime l.constants l.at l.x l.r k)
