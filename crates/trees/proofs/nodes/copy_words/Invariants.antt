-- The words before i are copied.
use mathlib.Core.Path.{◌≡◌}
use lib.ListN.{length, drop}
use lib.Seq.{paste}
use Rattle.trees.proofs.nodes.copy_words.Given as goal

abbrev pub invariant-loop-i : goal.invariant-loop-i
invariant-loop-i l = (length l.target ≡ length l.initial.target) × (l.target ≡ paste l.initial.target l.to (drop l.from l.source) l.i)
