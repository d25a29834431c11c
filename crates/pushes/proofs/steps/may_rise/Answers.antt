use mathlib.Core.Path.{ap}
use mathlib.Core.Bool.{Bool, ◌&&◌}
use Rattle.pushes.specs.Passes.{may_rise}
use Rattle.pushes.proofs.steps.may_rise.Goals as goal

pub returns-then-is_clear : goal.returns-then-is_clear
unfolding may_rise
returns-then-is_clear c = ap (λ (b : Bool). b && c.args.tally.distinct) c.if-is_clear.ensures
