-- The loop's invariant: the places passed have their words.
use mathlib.Core.Path.{◌≡◌}
use Prim.Native.Nat.{◌%◌}
use Rattle.fields.specs.Prime.{prime}
use Rattle.inversion.proofs.Placewise.{done}
use Rattle.inversion.proofs.internal.settle.Given as goal

abbrev pub invariant-loop-x : goal.invariant-loop-x
invariant-loop-x l = l.state ≡ done (λ k y. y % prime) l.x-index l.initial.state
