use Rattle.modular.proofs.ProductHalves.{high_word}
use Rattle.field.proofs.lazy.product_high.Goals as goal

pub returns : goal.returns
returns c =
    high_word c.args.a c.args.b c.half_product-low.result c.half_product-2.result c.half_product.result c.half_product-3.result
    c.half_product-low.ensures.0 c.half_product-2.ensures.0 c.half_product.ensures.0 c.half_product-3.ensures.0
    c.half_product-low.ensures.1 c.half_product-2.ensures.1 c.half_product.ensures.1
