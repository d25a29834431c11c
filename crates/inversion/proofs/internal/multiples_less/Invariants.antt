-- The loop's invariant: the places before i are done.
use mathlib.Core.Path.{◌≡◌}
use lib.ListN.{length, get_or}
use Rattle.modular.specs.Arithmetic.{sub, mul}
use Rattle.fields.specs.Prime.{prime}
use Rattle.poseidon2.specs.Residues.{residues}
use Rattle.inversion.proofs.Placewise.{done}
use Rattle.inversion.proofs.internal.multiples_less.Given as goal

abbrev pub invariant-loop-i : goal.invariant-loop-i
invariant-loop-i l = (length l.state ≡ length l.initial.state) × (residues prime l.state ≡ done (λ k y. mul prime (get_or l.inverses k 0) (sub prime y l.s)) l.i (residues prime l.initial.state))
