use mathlib.Core.Path.{sym, ◌∙◌}
use native.Mathlib.Omega.{arith}
use Rattle.parameters.proofs.Accepted.{node_size_of}
use Rattle.parameters.proofs.check_numbers.Goals as goal

pub nonzero_div-numbers : goal.nonzero_div-numbers
nonzero_div-numbers c = omega (arith, (node_size_of _ _ (sym c.bad_node_size.ensures ∙ c.if-bad_node_size.false)).positive)
