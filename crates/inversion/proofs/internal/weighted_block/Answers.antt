use Rattle.inversion.proofs.Sums.{dot_four}
use Rattle.inversion.proofs.internal.weighted_block.Goals as goal

pub returns : goal.returns
returns c =
    let a = c.args in
    dot_four a.at a.inverses.now a.state.now c.lazy_product-fourth.ensures c.lazy_product_sum-third.ensures c.lazy_product_sum-second.ensures
    c.lazy_product_sum.ensures
