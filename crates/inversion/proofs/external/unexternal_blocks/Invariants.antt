-- The loop's invariant: the blocks before block i are done.
use mathlib.Core.Path.{◌≡◌}
use Prim.Native.Nat.{ℕ, ◌<◌}
use lib.ListN.{length}
use Rattle.fields.specs.Prime.{prime}
use Rattle.blocks.specs.Blocks.{four}
use Rattle.inversion.proofs.Flat.{UndoneAt}
use Rattle.inversion.proofs.external.unexternal_blocks.Given as goal

abbrev pub invariant-loop-i : goal.invariant-loop-i
invariant-loop-i g l =
    (length l.r ≡ g.row.B) × ((k : ℕ) → k < l.i → UndoneAt prime (four l.added) l.x l.r k)
