use Rattle.std.proofs.Common.{◌*◌, ◌%◌, ◌^◌, ◌<◌, inl, inr, arith}
use Rattle.modular.proofs.Congruence.{trans≈}
use Rattle.modular.proofs.ProductHalves.{H}
use Rattle.field.proofs.Wrapping.{ε, Rest, reduced, carried≈, uncarried≈}
use Rattle.field.proofs.lazy.reduce.Goals as goal
use Rattle.field.proofs.lazy.reduce.Goals.{Joined-low-top, then-low-top, else-low-top}

-- the low word less the top half, by either way
rest_is : (c : Joined-low-top) → Rest c.args.high c.args.low c.if-low-top.rest
rest_is c = elim c.if-low-top.branch [ then-low-top w ↦ inr (omega arith) | else-low-top w ↦ inl (omega arith) ]

rest_fits : (c : Joined-low-top) → c.if-low-top.rest < 2 ^ 64
rest_fits c = elim c.if-low-top.branch [ then-low-top w ↦ omega arith | else-low-top w ↦ omega arith ]

pub returns-then-total-middle : goal.returns-then-total-middle
returns-then-total-middle c =
    let j = c.before.before.before in
    let a = c.args in
    trans≈ (carried≈ c.if-low-top.rest (a.high % H * ε) c.wrapping_add_u64-total.result c.wrapping_add_u64.result (rest_fits j) (omega arith) c.wrapping_add_u64-total.ensures.value c.if-total-middle.true c.wrapping_add_u64.ensures.value)
    (reduced a.high a.low c.if-low-top.rest (rest_is j))

pub returns-else-total-middle : goal.returns-else-total-middle
returns-else-total-middle c =
    let j = c.before.before in
    let a = c.args in
    trans≈ (uncarried≈ c.if-low-top.rest (a.high % H * ε) c.wrapping_add_u64-total.result (rest_fits j) (omega arith) c.wrapping_add_u64-total.ensures.value c.if-total-middle.false)
    (reduced a.high a.low c.if-low-top.rest (rest_is j))
