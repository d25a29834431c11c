-- Refusals 8, 9 and 18, by how many words of D are 0.
use mathlib.Core.Path.{◌≡◌, refl, sym, ap, ◌∙◌}
use mathlib.Core.Logic.{◌≢◌}
use mathlib.Core.Bool.{Bool, true, false, ◌&&◌}
use mathlib.Core.List.{List}
use Prim.Native.Nat.{ℕ, ◌+◌, ◌%◌, ◌≤◌}
use native.Mathlib.Nat.{mod-lt}
use native.Mathlib.Decide.{ℕ_discrete}
use native.Mathlib.Omega.{arith}
use lib.Dec.{eqb}
use borrow.Author.Tests.{eq-eqb, ne_eqb, ltb-false}
use Rattle.modular.specs.Arithmetic.{inverse}
use Rattle.modular.specs.PrimeField.{PrimeField}
use Rattle.modular.proofs.PrimeField.{prime_laws}
use Rattle.poseidon2.specs.Layers.{sum}
use Rattle.poseidon2.specs.Inverse.{inverses, zeros, total_inverse}
use Rattle.poseidon2.proofs.Zeros.{inverse_nonzero}
use Rattle.kept.specs.Kept.{fits}
use Rattle.kept.proofs.Tested.{kept_are}
use Rattle.parameters.specs.Refusals.{several_zeros, bad_diagonal}

-- a D with a 0 is none for refusal 9, and of another the inverses decide
pub with_zero : (p : ℕ) (D : List ℕ) → zeros D ≢ 0 → bad_diagonal p D ≡ false
unfolding bad_diagonal
with_zero p D o = ap (λ (b : Bool). b && eqb ((1 + sum (inverses p D)) % p) 0) (ne_eqb (zeros D) 0 o)

pub without_zero : (p : ℕ) (D : List ℕ) → zeros D ≡ 0 → bad_diagonal p D ≡ eqb ((1 + sum (inverses p D)) % p) 0
unfolding bad_diagonal
without_zero p D z = ap (λ (b : Bool). b && eqb ((1 + sum (inverses p D)) % p) 0) (eq-eqb (zeros D) 0 z)

pub few_zeros_lem : (D : List ℕ) → several_zeros D ≡ false → zeros D ≤ 1
unfolding several_zeros
few_zeros_lem D e = ltb-false 1 (zeros D) e

-- the inverse that fits is 0 only where the sum is
module _ (p : ℕ) (F : PrimeField p) (D es : List ℕ) (k : ℕ) (f : fits p D es k ≡ true) (z : zeros D ≡ 0) where
  abbrev whole : ℕ
  whole = (1 + sum (inverses p D)) % p

  k_is : k ≡ inverse p whole
  unfolding total_inverse
  k_is = (kept_are p D es k f).1 ∙ rw (eq-eqb (zeros D) 0 z) refl

  pub sum-zero : k ≡ 0 → bad_diagonal p D ≡ true
  sum-zero e = without_zero p D z ∙ eq-eqb whole 0 (of (ℕ_discrete whole 0))
    where
      of : Dec (whole ≡ 0) → whole ≡ 0
      of (yes g) = g
      of (no o) = absurd (inverse_nonzero (prime_laws p F).inverses whole (omega arith) (mod-lt (1 + sum (inverses p D)) (omega (arith, F.fermat.above))) (sym k_is ∙ e))

  pub sum-nonzero : k ≢ 0 → bad_diagonal p D ≡ false
  sum-nonzero o = without_zero p D z ∙ ne_eqb whole 0 (λ e. o (k_is ∙ ap (inverse p) e ∙ (prime_laws p F).inverses.none))
