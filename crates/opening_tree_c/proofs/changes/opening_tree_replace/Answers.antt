use Rattle.parameters.specs.declared.ParameterSet.{ParameterSet}
use Rattle.change_entries.specs.Replacement.{replace_reply, replaced}
use Rattle.opening_tree_c.proofs.Calls.{entry_buffer_value}
use Rattle.opening_tree_c.proofs.changes.opening_tree_replace.Goals as goal

pub returns : goal.returns
returns c =
    let a = c.args in
    entry_buffer_value c.read-handed.ensures (λ (s : ParameterSet). replace_reply s a.store.now a.place a.leaf.now) (λ (s : ParameterSet). replaced s a.store.now a.place a.leaf.now) a.made.now c.of_answer.ensures c.replace.ensures
