use mathlib.Core.Path.{ap, ◌∙◌}
use Rattle.parameters.specs.declared.ParameterSet.{ParameterSet}
use Rattle.set_entries.specs.Exchange.{diagonal_exchanged}
use Rattle.opening_tree_c.proofs.Calls.{answer_given}
use Rattle.opening_tree_c.proofs.sets.opening_tree_exchange_diagonal.Goals as goal

pub returns : goal.returns
returns c =
    let a = c.args in
    answer_given _ c.give.ensures (c.exchange_diagonal-answer.ensures ∙ ap (λ (s : ParameterSet). diagonal_exchanged s a.diagonal.now) c.read-handed.ensures)
