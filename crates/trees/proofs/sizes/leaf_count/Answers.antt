use Rattle.std.proofs.Common.{arith}
use Rattle.trees.proofs.Counts.{power_fits}
use Rattle.trees.proofs.sizes.leaf_count.Goals as goal

pub overflow_mul-leaves : goal.overflow_mul-leaves
overflow_mul-leaves c =
    let a = c.args in
    rw c.loop.invariant (omega (arith, power_fits a.arity c.loop.counter a.height (omega arith) (omega arith) (omega arith)))
