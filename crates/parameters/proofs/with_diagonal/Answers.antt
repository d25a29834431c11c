use mathlib.Core.Path.{ap, ◌∙◌}
use Rattle.fields.specs.Prime.{prime}
use Rattle.parameters.specs.ParameterSet.{validation, with_diagonal}
use Rattle.parameters.proofs.Accepted.{count_fits}
use Rattle.parameters.proofs.AcceptedSets as sets
use Rattle.parameters.proofs.with_diagonal.Goals as goal

pub used_constants-constants-requires : goal.used_constants-constants-requires
used_constants-constants-requires c = count_fits _ _ _ _ _ (sets.numbers c.args.set c.requires)

pub returns : goal.returns
unfolding with_diagonal
returns c = c.validate.ensures ∙ ap (validation prime _ _ _ _ _ _) c.used_constants-constants.ensures
