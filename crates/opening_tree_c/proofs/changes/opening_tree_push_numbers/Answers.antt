use Rattle.parameters.specs.declared.ParameterSet.{ParameterSet}
use Rattle.push_entries.specs.Listed.{listed_reply, listed_pushed}
use Rattle.opening_tree_c.proofs.Calls.{entry_buffer_value}
use Rattle.opening_tree_c.proofs.changes.opening_tree_push_numbers.Goals as goal

pub returns : goal.returns
returns c =
    let a = c.args in
    entry_buffer_value c.read-handed.ensures (λ (s : ParameterSet). listed_reply s a.store.now a.records.now) (λ (s : ParameterSet). listed_pushed s a.store.now a.records.now) a.made.now c.of_answer.ensures c.push_listed.ensures
