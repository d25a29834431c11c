use mathlib.Core.Path.{ap}
use Prim.Native.Nat.{◌+◌, ◌*◌, ◌/◌}
use Rattle.trees.specs.declared.Dimensions.{Dimensions}
use Rattle.records.specs.Tests.{ranked}
use Rattle.pushes.specs.Passes.{next_of}
use Rattle.pushes.proofs.Ranks.{some_under, under_fits, before_fits}
use Rattle.pushes.proofs.levels.next.Goals as goal

pub nonzero_div-result : goal.nonzero_div-result
nonzero_div-result c = some_under c.args.set c.requires.accepted c.requires.rank

pub overflow_add-result : goal.overflow_add-result
overflow_add-result c =
    rw c.requires.places (record { fits = before_fits c.args.set c.requires.accepted c.requires.rank })

pub overflow_mul-result : goal.overflow_mul-result
overflow_mul-result c =
    rw c.dimensions-d.ensures (record { fits = under_fits c.args.set c.requires.accepted c.requires.rank })

pub returns : goal.returns
unfolding next_of
returns c =
    let t = c.args.tally in
    ap (λ (e : Dimensions). ranked t (t.before + t.places / t.under) (t.under * e.arity) t.made) c.dimensions-d.ensures
