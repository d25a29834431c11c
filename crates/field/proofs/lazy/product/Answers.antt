use Rattle.std.proofs.Common.{◌*◌}
use Rattle.modular.proofs.Congruence.{eq≈, trans≈}
use Rattle.field.proofs.Wrapping.{two_words}
use Rattle.field.proofs.lazy.product.Goals as goal

pub returns : goal.returns
returns c =
    let a = c.args in
    trans≈ c.reduce.ensures (eq≈ (two_words (a.a * a.b) c.product_high.result c.product_low.result c.product_high.ensures c.product_low.ensures))
