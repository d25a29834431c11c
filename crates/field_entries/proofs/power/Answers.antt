use mathlib.Core.Path.{ap}
use mathlib.Core.List.{[], ◌∷◌}
use Prim.Native.Nat.{ℕ}
use native.Mathlib.Omega.{arith}
use Rattle.refusals.specs.Table.{done}
use Rattle.field_entries.specs.Arithmetic.{power_reply}
use Rattle.field_entries.proofs.power.Goals as goal

pub returns : goal.returns
unfolding power_reply
returns c = ap (λ (x : ℕ). done (x ∷ [])) (omega arith)
