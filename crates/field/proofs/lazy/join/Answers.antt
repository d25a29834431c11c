use Rattle.std.proofs.Common.{◌+◌, ◌*◌, ◌/◌, ◌%◌}
use Rattle.modular.proofs.Congruence.{trans≈}
use Rattle.modular.proofs.ProductHalves.{H}
use Rattle.field.proofs.Wrapping.{ε, joined, half_fits, small_fits, carried≈, uncarried≈}
use Rattle.field.proofs.lazy.join.Goals as goal

pub returns-then-total-small : goal.returns-then-total-small
returns-then-total-small c =
    let a = c.args in
    trans≈ (carried≈ (a.high % H * H) (a.low + a.high / H * ε) c.wrapping_add_u64-total.result c.wrapping_add_u64.result (half_fits a.high) (small_fits a.high a.low c.requires.0 c.requires.1) c.wrapping_add_u64-total.ensures.value c.if-total-small.true c.wrapping_add_u64.ensures.value)
    (joined a.high a.low)

pub returns-else-total-small : goal.returns-else-total-small
returns-else-total-small c =
    let a = c.args in
    trans≈ (uncarried≈ (a.high % H * H) (a.low + a.high / H * ε) c.wrapping_add_u64-total.result (half_fits a.high) (small_fits a.high a.low c.requires.0 c.requires.1) c.wrapping_add_u64-total.ensures.value c.if-total-small.false)
    (joined a.high a.low)
