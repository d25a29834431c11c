use Rattle.std.proofs.Common.{arith}
use Rattle.field.proofs.Wrapping.{borrowed≈, unborrowed≈}
use Rattle.field.proofs.lazy.difference.Goals as goal

pub returns-then-a-b : goal.returns-then-a-b
returns-then-a-b c =
    let a = c.args in
    borrowed≈ a.a a.b c.wrapping_sub_u64-wrapped.result c.wrapping_sub_u64.result c.if-a-b.true c.requires (omega arith) c.wrapping_sub_u64-wrapped.ensures.value (omega arith) c.wrapping_sub_u64.ensures.value

pub returns-else-a-b : goal.returns-else-a-b
returns-else-a-b c =
    let a = c.args in
    unborrowed≈ a.a a.b c.wrapping_sub_u64-wrapped.result c.if-a-b.false c.requires (omega arith) c.wrapping_sub_u64-wrapped.ensures.value
