use Rattle.parameters.specs.declared.ParameterSet.{ParameterSet}
use Rattle.file_entries.specs.Files.{file_reply, leaf_written}
use Rattle.opening_tree_c.proofs.Calls.{entry_buffer}
use Rattle.opening_tree_c.proofs.leaves.opening_tree_leaf_of_file.Goals as goal

pub returns : goal.returns
returns c =
    let a = c.args in
    entry_buffer c.read-handed.ensures (λ (s : ParameterSet). file_reply s a.contents.now a.leaf.now) (λ (s : ParameterSet). leaf_written s a.contents.now a.leaf.now) c.of_outcome.ensures c.leaf_of_file.ensures
