use mathlib.Core.Path.{ap, ◌∙◌}
use mathlib.Core.Bool.{Bool, ◌&&◌, and_assoc}
use lib.Dec.{ltb}
use Rattle.records.specs.Tests.{is_clear}
use Rattle.pushes.specs.Passes.{may_write, may_rise}
use Rattle.pushes.proofs.steps.may_write.Goals as goal

pub returns-then-may_rise : goal.returns-then-may_rise
unfolding may_write may_rise
returns-then-may_rise c =
    let t = c.args.tally in
    let there = ltb c.args.place t.places in
    ap (λ (b : Bool). b && there) c.if-may_rise.ensures ∙ and_assoc (is_clear t) t.distinct there
