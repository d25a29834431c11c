use Rattle.std.proofs.Common.{ℕ, ◌-◌, ◌%◌, refl, ap, lit<}
use Rattle.modular.specs.Arithmetic.{mul}
use Rattle.modular.specs.Goldilocks.{p}
use Rattle.modular.proofs.Goldilocks.{goldilocks_laws}
use Rattle.field.proofs.parts.minus_third.Goals as goal

pub returns : goal.returns
unfolding mul
returns c = ap (λ (n : ℕ). p - n % p) (goldilocks_laws.inverses.only 3 12297829379609722881 (lit< tt) (lit< tt) (lit< tt) refl)
