use Rattle.std.proofs.Common.{ℕ, ◌+◌, ◌*◌, ◌/◌, ◌%◌, refl, ap, ◌∙◌}
use Rattle.modular.proofs.ProductHalves.{W, H, low_word}
use Rattle.field.proofs.lazy.product_low.Goals as goal

pub returns : goal.returns
returns c =
    let a = c.args in
    c.wrapping_add_u64.ensures.value ∙ ap (λ (x : ℕ). (x % H * H + c.half_product-3.result) % W) c.wrapping_add_u64-cross.ensures.value
    ∙ low_word a.a a.b c.half_product-3.result c.half_product-2.result c.half_product.result (a.a / H * (a.b / H))
    c.half_product-3.ensures.0 c.half_product-2.ensures.0 c.half_product.ensures.0 refl
    c.half_product-3.ensures.1 c.half_product-2.ensures.1 c.half_product.ensures.1
