use Rattle.std.proofs.Common.{arith, rules}
use Rattle.modular.proofs.ProductHalves.{half_product}
use Rattle.field.proofs.lazy.half_product.Goals as goal

pub overflow_mul-result : goal.overflow_mul-result
overflow_mul-result c = omega (arith, half_product c.args.a c.args.b c.requires.0 c.requires.1)

pub returns : goal.returns
returns c = (search rules, half_product c.args.a c.args.b c.requires.0 c.requires.1)
