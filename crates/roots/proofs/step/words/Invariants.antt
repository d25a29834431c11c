use mathlib.Core.Path.{◌≡◌}
use Prim.Native.Nat.{ℕ, ◌<◌}
use lib.ListN.{length}
use Rattle.roots.proofs.Flat.{ResiduesAt}
use Rattle.roots.proofs.step.words.Given as goal

-- the blocks before i are done
abbrev pub invariant-loop-i : goal.invariant-loop-i
invariant-loop-i g l = (length l.r ≡ g.row.B) × ((k : ℕ) → k < l.i → ResiduesAt l.x l.r k)
