use Rattle.std.proofs.Common.{[], ◌∷◌}
use Rattle.blocks.proofs.Round.{multiples_four}
use Rattle.layers.proofs.partial.multiples_block.Goals as goal

pub returns : goal.returns
returns c =
    let a = c.args in
    multiples_four a.q a.x (c.product_sum.result ∷ c.product_sum-2.result ∷ c.product_sum-3.result ∷ c.product_sum-4.result ∷ []) a.diagonal.now a.at
    c.product_sum.ensures c.product_sum-2.ensures c.product_sum-3.ensures c.product_sum-4.ensures
