use Rattle.modular.proofs.Seventh.{by_products}
use Rattle.field.proofs.lazy.seventh_power.Goals as goal

pub returns : goal.returns
returns c =
    by_products c.args.x c.product-square.result c.product-fourth.result c.product-cube.result c.product.result
    c.product-square.ensures c.product-fourth.ensures c.product-cube.ensures c.product.ensures
