-- The loop's invariant: r stands for x squared so many times.
use Prim.Native.Nat.{◌^◌}
use Rattle.modular.specs.Congruence.{◌≈⟨◌⟩◌}
use Rattle.modular.specs.Goldilocks.{p}
use Rattle.roots.proofs.raised.Given as goal

abbrev pub invariant-loop : goal.invariant-loop
invariant-loop l = l.r ≈⟨ p ⟩ l.fn.x ^ (2 ^ l.counter)
