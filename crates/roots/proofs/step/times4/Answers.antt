use Rattle.roots.proofs.Chain.{products_four}
use Rattle.roots.proofs.step.times4.Goals as goal

pub returns : goal.returns
returns c =
    let a = c.args in
    products_four a.a a.b c.product.ensures c.product-2.ensures c.product-3.ensures c.product-4.ensures
