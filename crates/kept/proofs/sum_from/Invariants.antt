use mathlib.Core.Path.{◌≡◌}
use Prim.Native.Nat.{◌+◌, ◌%◌}
use lib.ListN.{take}
use Rattle.fields.specs.Prime.{prime}
use Rattle.poseidon2.specs.Layers.{sum}
use Rattle.kept.proofs.sum_from.Given as goal

abbrev pub invariant-loop-word : goal.invariant-loop-word
invariant-loop-word l = l.total ≡ (l.start + sum (take l.word-index l.words)) % prime
