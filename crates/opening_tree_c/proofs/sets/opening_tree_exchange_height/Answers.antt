use mathlib.Core.Path.{ap, ◌∙◌}
use Rattle.parameters.specs.declared.ParameterSet.{ParameterSet}
use Rattle.set_entries.specs.Exchange.{height_exchanged}
use Rattle.opening_tree_c.proofs.Calls.{answer_given}
use Rattle.opening_tree_c.proofs.sets.opening_tree_exchange_height.Goals as goal

pub returns : goal.returns
returns c =
    let a = c.args in
    answer_given _ c.give.ensures (c.exchange_height-answer.ensures ∙ ap (λ (s : ParameterSet). height_exchanged s a.height) c.read-handed.ensures)
