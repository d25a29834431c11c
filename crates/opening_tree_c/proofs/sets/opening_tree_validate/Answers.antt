use Rattle.opening_tree_c.proofs.Calls.{answer_given}
use Rattle.opening_tree_c.proofs.sets.opening_tree_validate.Goals as goal

pub returns : goal.returns
returns c = answer_given c.args.set.now c.give.ensures c.validate-answer.ensures
