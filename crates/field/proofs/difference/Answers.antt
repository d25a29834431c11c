use Rattle.std.proofs.Common.{arith}
use Rattle.modular.specs.Arithmetic.{sub}
use Rattle.field.proofs.Wrapping.{difference_borrowed, difference_unborrowed}
use Rattle.field.proofs.difference.Goals as goal

pub returns-then-a-b : goal.returns-then-a-b
unfolding sub
returns-then-a-b c =
    let a = c.args in
    difference_borrowed a.a a.b c.wrapping_sub_u64-wrapped.result c.if-a-b.true c.requires.1 (omega arith) c.wrapping_sub_u64-wrapped.ensures.value

pub returns-else-a-b : goal.returns-else-a-b
unfolding sub
returns-else-a-b c =
    let a = c.args in
    difference_unborrowed a.a a.b c.wrapping_sub_u64-wrapped.result c.if-a-b.false c.requires.0 c.requires.1 (omega arith) c.wrapping_sub_u64-wrapped.ensures.value
