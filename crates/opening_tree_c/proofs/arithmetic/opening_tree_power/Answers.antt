use Rattle.opening_tree_c.proofs.Calls.{same_value}
use Rattle.opening_tree_c.proofs.arithmetic.opening_tree_power.Goals as goal

pub returns : goal.returns
returns c = same_value _ c.of_answer.ensures c.power.ensures
