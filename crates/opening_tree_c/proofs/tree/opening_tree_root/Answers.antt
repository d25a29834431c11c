use Rattle.parameters.specs.declared.ParameterSet.{ParameterSet}
use Rattle.tree_entries.specs.Trees.{root_reply, rooted}
use Rattle.opening_tree_c.proofs.Calls.{entry_buffer}
use Rattle.opening_tree_c.proofs.tree.opening_tree_root.Goals as goal

pub returns : goal.returns
returns c =
    let a = c.args in
    entry_buffer c.read-handed.ensures (λ (s : ParameterSet). root_reply s a.store.now a.node.now) (λ (s : ParameterSet). rooted s a.store.now a.node.now) c.of_outcome.ensures c.root.ensures
