use native.Mathlib.Omega.{arith}
use Rattle.roots.proofs.Flat.{residues_flat}
use Rattle.roots.proofs.step.words.Goals as goal

pub returns : goal.returns
returns g c = residues_flat g.row.B c.args.x c.loop-i.r (λ k l. c.loop-i.invariant.1 k (omega arith))
