use Rattle.std.proofs.Common.{◌*◌, arith}
use Rattle.modular.proofs.Congruence.{trans≈}
use Rattle.field.proofs.Wrapping.{ε, folded, carried≈, uncarried≈}
use Rattle.field.proofs.lazy.fold.Goals as goal

pub returns-then-total-small : goal.returns-then-total-small
returns-then-total-small c =
    let a = c.args in
    trans≈ (carried≈ a.low (a.high * ε) c.wrapping_add_u64-total.result c.wrapping_add_u64.result c.ranges.low.fits (omega arith) c.wrapping_add_u64-total.ensures.value c.if-total-small.true c.wrapping_add_u64.ensures.value)
    (folded a.high a.low)

pub returns-else-total-small : goal.returns-else-total-small
returns-else-total-small c =
    let a = c.args in
    trans≈ (uncarried≈ a.low (a.high * ε) c.wrapping_add_u64-total.result c.ranges.low.fits (omega arith) c.wrapping_add_u64-total.ensures.value c.if-total-small.false)
    (folded a.high a.low)
