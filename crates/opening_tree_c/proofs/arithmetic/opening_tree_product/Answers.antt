use Rattle.opening_tree_c.proofs.Calls.{same_value}
use Rattle.opening_tree_c.proofs.arithmetic.opening_tree_product.Goals as goal

pub returns : goal.returns
returns c = same_value _ c.of_answer.ensures c.product.ensures
