use mathlib.Core.Path.{sym, ap, subst, ◌∙◌}
use mathlib.Core.Logic.{◌≢◌}
use Prim.Native.Nat.{ℕ, ◌<◌}
use native.Mathlib.Nat.{mod-lt}
use native.Mathlib.Omega.{arith}
use Rattle.modular.specs.Arithmetic.{inverse}
use Rattle.fields.specs.Prime.{prime}
use Rattle.fields.proofs.Prime.{positive, prime_field}
use Rattle.kept.proofs.Inverting.{all_nonzero, rest_alone, total_none, of_parts}
use Rattle.kept.proofs.kept_with_zero.Goals as goal

pub inverse-rest-requires : goal.inverse-rest-requires
inverse-rest-requires c =
    let o = all_nonzero prime prime_field c.args.diagonal.now c.requires.1 c.products_of-products.result c.products_of-products.ensures in
    let e = c.residue.ensures in
    let nonzero : c.residue.result ≢ 0 = λ z. o (sym e ∙ z) in
    (omega arith, subst (λ (n : ℕ). n < prime) (sym e) (mod-lt _ positive))

pub inverses_from-requires : goal.inverses_from-requires
inverses_from-requires c =
    (c.requires.0, c.requires.1, c.products_of-products.ensures.before, rest_alone prime prime_field c.args.diagonal.now c.requires.1 c.products_of-products.result c.products_of-products.ensures c.inverse-rest.result (c.inverse-rest.ensures ∙ ap (inverse prime) c.residue.ensures))

pub returns : goal.returns
returns c =
    of_parts prime prime_field c.args.diagonal.now c.inverses_from.ensures (total_none prime prime_field c.args.diagonal.now c.requires.2)
