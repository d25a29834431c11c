use Rattle.parameters.specs.declared.ParameterSet.{ParameterSet}
use Rattle.tree_entries.specs.Trees.{storeless_reply, storeless_rooted}
use Rattle.opening_tree_c.proofs.Calls.{entry_buffer}
use Rattle.opening_tree_c.proofs.tree.opening_tree_storeless_root.Goals as goal

pub returns : goal.returns
returns c =
    let a = c.args in
    entry_buffer c.read-handed.ensures (λ (s : ParameterSet). storeless_reply s a.leaves.now a.node.now) (λ (s : ParameterSet). storeless_rooted s a.leaves.now a.node.now) c.of_outcome.ensures c.storeless_root.ensures
