use mathlib.Core.Path.{sym, subst, ◌∙◌}
use Prim.Native.Nat.{ℕ, ◌<◌}
use native.Mathlib.Nat.{mod-lt}
use native.Mathlib.Omega.{arith}
use Rattle.fields.specs.Prime.{prime}
use Rattle.fields.proofs.Prime.{positive, prime_field}
use Rattle.kept.proofs.Tested.{list_fails, total_zero, total_sum, fitting_words}
use Rattle.kept.proofs.fits.Goals as goal

pub returns-else-are_inverses : goal.returns-else-are_inverses
returns-else-are_inverses c =
    let a = c.args in
    c.if-are_inverses.false ∙ list_fails a.diagonal.now a.inverses.now a.total_inverse (sym c.are_inverses.ensures ∙ c.if-are_inverses.false)

pub returns-else-zero_count-eq0 : goal.returns-else-zero_count-eq0
returns-else-zero_count-eq0 c =
    let a = c.args in
    total_zero a.diagonal.now a.inverses.now a.total_inverse (sym c.are_inverses.ensures ∙ c.if-are_inverses.true) (λ z. c.if-zero_count-eq0.false (c.requires.0 ∙ z))

pub sum_from-requires : goal.sum_from-requires
sum_from-requires c =
    let a = c.args in
    (omega (arith, prime_field.fermat.above), fitting_words a.diagonal.now a.inverses.now (sym c.are_inverses.ensures ∙ c.if-are_inverses.true))

pub is_inverse-requires : goal.is_inverse-requires
is_inverse-requires c = subst (λ (n : ℕ). n < prime) (sym c.sum_from.ensures) (mod-lt _ positive)

pub returns-then-zero_count-eq0 : goal.returns-then-zero_count-eq0
returns-then-zero_count-eq0 c =
    let a = c.args in
    c.is_inverse.ensures
    ∙ total_sum a.diagonal.now a.inverses.now a.total_inverse (sym c.are_inverses.ensures ∙ c.if-are_inverses.true) (sym c.requires.0 ∙ c.if-zero_count-eq0.true) c.sum_from.result c.sum_from.ensures
