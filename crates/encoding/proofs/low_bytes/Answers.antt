use mathlib.Core.Path.{ap}
use Prim.Native.Nat.{ℕ, ◌%◌}
use Rattle.encoding.proofs.Bytes.{shifted}
use Rattle.encoding.proofs.low_bytes.Goals as goal

pub returns : goal.returns
returns c = ap (λ (m : ℕ). c.args.number % m) (shifted c.args.n c.requires)
