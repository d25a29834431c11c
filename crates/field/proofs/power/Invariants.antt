-- The loop's invariant: r stands for the base to the power of the exponent's bits from i on.
use Rattle.std.proofs.Common.{◌/◌, ◌^◌}
use Rattle.modular.specs.Congruence.{◌≈⟨◌⟩◌}
use Rattle.modular.specs.Goldilocks.{p}
use Rattle.field.proofs.power.Given as goal

abbrev pub invariant-loop-i : goal.invariant-loop-i
invariant-loop-i l = l.r ≈⟨ p ⟩ l.base ^ (l.exponent / 2 ^ l.i)
