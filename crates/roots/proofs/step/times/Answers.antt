use Rattle.std.proofs.Common.{◌<◌, ◌≢◌, length, length-set, arith, get_or-set_other, get_or-set_same, below_more}
use Rattle.roots.proofs.Flat.{products_flat}
use Rattle.roots.proofs.step.times.Goals as goal

pub loop-i-preserved : goal.loop-i-preserved
loop-i-preserved g c =
    let l = c.loop-i in (
      simp length-set l.invariant.0,
      below_more _ _
          (λ k h. let other : k ≢ l.i = omega arith in rw get_or-set_other (l.invariant.1 k h))
          (let here : l.i < length l.r = omega arith in rw get_or-set_same c.times4.ensures),
    )

pub returns : goal.returns
returns g c = products_flat g.row.B c.args.a c.args.b c.loop-i.r (λ k l. c.loop-i.invariant.1 k (omega arith))
