use Rattle.std.proofs.Common.{◌*◌, ◌%◌, rules}
use Rattle.modular.proofs.Congruence.{refl≈, eq≈, trans≈, add≈}
use Rattle.modular.proofs.ProductHalves.{H}
use Rattle.field.proofs.Wrapping.{ε, taken_off, top_word, middle_word, two_words}
use Rattle.field.proofs.lazy.square.Goals as goal

pub returns : goal.returns
returns c =
    let x = c.args.x in
    let high = c.product_high-high.result in
    let low = c.product_low.result in
    trans≈ c.sum.ensures
    (trans≈ (add≈ c.difference-rest.ensures (refl≈ {a = high % H * ε}))
    (trans≈ (taken_off high low (top_word high (search rules))) (eq≈ (two_words (x * x) high low c.product_high-high.ensures c.product_low.ensures))))

pub difference-rest-requires : goal.difference-rest-requires
difference-rest-requires c = top_word c.product_high-high.result (search rules)

pub sum-requires : goal.sum-requires
sum-requires c = middle_word c.product_high-high.result
