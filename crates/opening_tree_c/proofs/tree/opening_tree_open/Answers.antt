use Rattle.parameters.specs.declared.ParameterSet.{ParameterSet}
use Rattle.tree_entries.specs.Trees.{open_reply, opened}
use Rattle.opening_tree_c.proofs.Calls.{entry_buffer}
use Rattle.opening_tree_c.proofs.tree.opening_tree_open.Goals as goal

pub returns : goal.returns
returns c =
    let a = c.args in
    entry_buffer c.read-handed.ensures (λ (s : ParameterSet). open_reply s a.store.now a.place a.siblings.now) (λ (s : ParameterSet). opened s a.store.now a.place a.siblings.now) c.of_outcome.ensures c.«open».ensures
