use Rattle.parameters.specs.declared.ParameterSet.{ParameterSet}
use Rattle.tree_entries.specs.Trees.{sizes_reply}
use Rattle.opening_tree_c.proofs.Calls.{entry_values}
use Rattle.opening_tree_c.proofs.tree.opening_tree_sizes.Goals as goal

pub returns : goal.returns
returns c =
    let a = c.args in
    entry_values c.read-handed.ensures (λ (s : ParameterSet). sizes_reply s) a.leaves.now a.store.now a.opening.now c.of_sizing.ensures c.sizes.ensures
