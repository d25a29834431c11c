use Rattle.std.proofs.Common.{ℕ, ◌-◌, ◌%◌, refl, ap, lit<}
use Rattle.modular.specs.Arithmetic.{mul}
use Rattle.modular.specs.Goldilocks.{p}
use Rattle.modular.proofs.Goldilocks.{goldilocks_laws}
use Rattle.field.proofs.parts.minus_quarter.Goals as goal

pub returns : goal.returns
unfolding mul
returns c = ap (λ (n : ℕ). p - n % p) (goldilocks_laws.inverses.only 4 13835058052060938241 (lit< tt) (lit< tt) (lit< tt) refl)
