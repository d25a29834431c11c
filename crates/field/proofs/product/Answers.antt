use Rattle.std.proofs.Common.{◌∙◌}
use Rattle.modular.specs.Arithmetic.{mul}
use Rattle.field.proofs.product.Goals as goal

pub returns : goal.returns
unfolding mul
returns c = c.residue.ensures ∙ c.product.ensures.same
