use mathlib.Core.Path.{ap}
use Rattle.fields.specs.Prime.{prime}
use Rattle.kept.specs.declared.Kept.{Kept}
use Rattle.parameters.proofs.Answers.{of_places}
use Rattle.parameters.proofs.held.Goals as goal

pub returns : goal.returns
returns c =
    of_places prime _ _ _ _ _ _ _ c.hold.ensures c.hold-2.ensures (ap (λ (r : Kept). r.inverses) c.keep-total_inverse.ensures) (ap (λ (r : Kept). r.total_inverse) c.keep-total_inverse.ensures)
