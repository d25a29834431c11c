use Rattle.parameters.specs.declared.ParameterSet.{ParameterSet}
use Rattle.tree_entries.specs.Trees.{build_reply, built}
use Rattle.opening_tree_c.proofs.Calls.{entry_buffer}
use Rattle.opening_tree_c.proofs.tree.opening_tree_build.Goals as goal

pub returns : goal.returns
returns c =
    let a = c.args in
    entry_buffer c.read-handed.ensures (λ (s : ParameterSet). build_reply s a.leaves.now a.store.now) (λ (s : ParameterSet). built s a.leaves.now a.store.now) c.of_outcome.ensures c.build.ensures
