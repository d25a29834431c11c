use Rattle.std.proofs.Common.{◌≡◌, ℕ, ◌+◌, ◌*◌, ap, ◌∙◌}
use Rattle.modular.proofs.Congruence.{eq≈, trans≈}
use Rattle.modular.proofs.ProductHalves.{W}
use Rattle.field.proofs.Wrapping.{added, added_carried}
use Rattle.field.proofs.lazy.product_sum.Goals as goal
use Rattle.field.proofs.lazy.product_sum.Goals.{then-total-c, else-total-c}

pub returns : goal.returns
returns c =
    let a = c.args in
    let f = c.ranges in
    let hi = c.product_high-high.result in
    let lo = c.product_low-low.result in
    let t = c.wrapping_add_u64-total.result in
    let e : c.if-total-c.top * W + t ≡ a.c + a.a * a.b = elim c.if-total-c.branch [
      | then-total-c w ↦ ap (λ (x : ℕ). x * W + t) w.top-is ∙ added_carried a.a a.b a.c hi lo t f.a.fits f.b.fits f.c.fits c.product_high-high.ensures c.product_low-low.ensures c.wrapping_add_u64-total.ensures.value w.wrapping_add_u64-top.result w.if-total-c.true w.wrapping_add_u64-top.ensures.value
      | else-total-c w ↦ ap (λ (x : ℕ). x * W + t) w.top-is ∙ added a.a a.b a.c hi lo t f.a.fits f.b.fits f.c.fits c.product_high-high.ensures c.product_low-low.ensures c.wrapping_add_u64-total.ensures.value w.if-total-c.false
    ] in
    trans≈ c.reduce.ensures (eq≈ e)
