use Rattle.std.proofs.Common.{arith}
use Rattle.field.proofs.Wrapping.{carried≈, uncarried≈}
use Rattle.field.proofs.lazy.sum.Goals as goal

pub returns-then-total-b : goal.returns-then-total-b
returns-then-total-b c =
    let a = c.args in
    carried≈ a.a a.b c.wrapping_add_u64-total.result c.wrapping_add_u64.result c.ranges.a.fits (omega arith) c.wrapping_add_u64-total.ensures.value c.if-total-b.true c.wrapping_add_u64.ensures.value

pub returns-else-total-b : goal.returns-else-total-b
returns-else-total-b c =
    let a = c.args in
    uncarried≈ a.a a.b c.wrapping_add_u64-total.result c.ranges.a.fits (omega arith) c.wrapping_add_u64-total.ensures.value c.if-total-b.false
