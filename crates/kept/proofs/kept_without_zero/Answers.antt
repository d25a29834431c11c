use mathlib.Core.Path.{◌≡◌, sym, ap, subst, ◌∙◌}
use mathlib.Core.Logic.{◌≢◌}
use Prim.Native.Nat.{ℕ, ◌*◌, ◌<◌}
use native.Mathlib.Nat.{mod-lt}
use native.Mathlib.Omega.{arith}
use Rattle.modular.specs.Arithmetic.{mul, inverse}
use Rattle.fields.specs.Prime.{prime}
use Rattle.fields.proofs.Prime.{positive, prime_field}
use Rattle.kept.proofs.Inverting.{both_nonzero, rest_of, total_of, of_parts}
use Rattle.kept.proofs.kept_without_zero.Goals as goal
use Rattle.kept.proofs.kept_without_zero.Goals.{After-inverse-x}

mul-word : (a b r : ℕ) → r ≡ mul prime a b → r < prime
unfolding mul
mul-word a b r e = subst (λ (n : ℕ). n < prime) (sym e) (mod-lt (a * b) positive)

pub inverse-x-requires : goal.inverse-x-requires
inverse-x-requires c =
    let o = both_nonzero prime prime_field c.args.diagonal.now c.requires.1 c.products_of-products.result c.products_of-products.ensures c.requires.2 c.requires.3 in
    let nonzero : c.product.result ≢ 0 = λ z. o (sym c.product.ensures ∙ z) in
    (omega arith, mul-word _ _ _ c.product.ensures)

-- x is the inverse of both products' product
x-is : (c : After-inverse-x) → c.inverse-x.result ≡ inverse prime (mul prime c.products_of-products.result.all c.products_of-products.result.scaled)
x-is c = c.inverse-x.ensures ∙ ap (inverse prime) c.product.ensures

pub inverses_from-requires : goal.inverses_from-requires
inverses_from-requires c =
    let v = (goal.at.inverses_from-requires c).After-inverse-x in
    (c.requires.0, c.requires.1, c.products_of-products.ensures.before, rest_of prime prime_field c.args.diagonal.now c.requires.1 c.products_of-products.result c.products_of-products.ensures c.requires.2 c.requires.3 c.inverse-x.result (x-is v) c.product-rest.result c.product-rest.ensures)

pub returns : goal.returns
returns c =
    let v = (goal.at.returns c).After-inverse-x in
    let D = c.args.diagonal.now in
    of_parts prime prime_field D c.inverses_from.ensures
    (total_of prime prime_field D c.requires.1 c.products_of-products.result c.products_of-products.ensures c.requires.2 c.requires.3 c.inverse-x.result (x-is v) c.product-total_inverse.result (c.product-total_inverse.ensures ∙ ap (λ (n : ℕ). mul prime n c.products_of-products.result.all) c.product-2.ensures))
