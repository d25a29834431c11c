use mathlib.Core.Path.{◌≡◌, sym, ap, subst, ◌∙◌}
use Prim.Native.Nat.{ℕ, ◌*◌, ◌<◌}
use native.Mathlib.Nat.{mod-lt}
use Rattle.modular.specs.Arithmetic.{mul, inverse}
use Rattle.modular.specs.Congruence.{◌≈⟨◌⟩◌}
use Rattle.modular.proofs.Congruence.{refl≈, eq≈, trans≈, mod≈, mul≈}
use Rattle.fields.specs.Prime.{prime}
use Rattle.fields.proofs.Prime.{positive, prime_field, prime_laws}
use Rattle.kept.proofs.Inverting.{is_inverse}
use Rattle.kept.proofs.inverse_from.Goals as goal

by_product : (d a b r : ℕ) → r ≡ mul prime a b → a * b * d ≈⟨ prime ⟩ 1 → (r < prime) × (r * d ≈⟨ prime ⟩ 1)
unfolding mul
by_product d a b r e f = (subst (λ (n : ℕ). n < prime) (sym e) (mod-lt (a * b) positive), trans≈ (mul≈ (trans≈ (eq≈ e) (mod≈ (a * b))) (refl≈ {a = d})) f)

pub returns-then-d-eq0 : goal.returns-then-d-eq0
returns-then-d-eq0 c = sym (ap (inverse prime) c.if-d-eq0.true ∙ prime_laws.inverses.none)

pub returns-else-d-eq0 : goal.returns-else-d-eq0
returns-else-d-eq0 c =
    let a = c.args in
    let b = by_product a.d a.rest a.before c.product.result c.product.ensures (c.requires.1 c.if-d-eq0.false) in
    is_inverse prime prime_field a.d c.product.result c.if-d-eq0.false c.requires.0 b.0 b.1
