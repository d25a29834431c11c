-- The prime in use is one of the record: the checker computes its certificate.
use mathlib.Core.Path.{◌≡◌, refl}
use Prim.Native.Nat.{ℕ, ◌<◌}
use Rattle.modular.specs.Arithmetic.{pow, seventh_root}
use Rattle.modular.specs.Certificate.{certifies}
use Rattle.modular.specs.PrimeField.{PrimeField, PrimeLaws}
use Rattle.modular.specs.Goldilocks.{p, primitive_root, factors, root_exponent}
use Rattle.modular.proofs.PrimitiveRoot.{certified}
use Rattle.modular.proofs.PrimeField.{prime_laws}

pub goldilocks : PrimeField p
unfolding certifies
goldilocks = record {
  fermat = certified p primitive_root factors tt;
  root_exponent = root_exponent;
  turns = 4;
  undoes = refl;
}

pub goldilocks_laws : PrimeLaws p goldilocks
goldilocks_laws = prime_laws p goldilocks

-- the seventh root is a power (Rules 7.1)
pub seventh_root_power : (y : ℕ) → y < p → seventh_root p y ≡ pow p y root_exponent
unfolding goldilocks
seventh_root_power y h = goldilocks_laws.seventh_roots.power y h
