use native.Mathlib.Omega.{arith}
use Rattle.roots.proofs.Chain.{number_none, number_more, number_times}
use Rattle.roots.proofs.raised.Goals as goal

pub loop-init : goal.loop-init
loop-init c = number_none _

pub loop-preserved : goal.loop-preserved
loop-preserved c = number_more c.loop.counter c.args.x c.loop.invariant c.product-r.ensures

pub returns : goal.returns
returns c =
    let a = c.args in
    number_times c.loop.counter a.n a.x a.y (omega arith) c.loop.invariant c.product.ensures
