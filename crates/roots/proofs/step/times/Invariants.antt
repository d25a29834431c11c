use mathlib.Core.Path.{◌≡◌}
use Prim.Native.Nat.{ℕ, ◌<◌}
use lib.ListN.{length}
use Rattle.roots.proofs.Flat.{ProductsAt}
use Rattle.roots.proofs.step.times.Given as goal

-- the blocks before i are done
abbrev pub invariant-loop-i : goal.invariant-loop-i
invariant-loop-i g l = (length l.r ≡ g.row.B) × ((k : ℕ) → k < l.i → ProductsAt l.a l.b l.r k)
