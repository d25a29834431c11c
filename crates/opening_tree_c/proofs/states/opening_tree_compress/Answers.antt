use Rattle.parameters.specs.declared.ParameterSet.{ParameterSet}
use Rattle.state_entries.specs.Permutation.{compress_reply, compressed}
use Rattle.opening_tree_c.proofs.Calls.{entry_buffer}
use Rattle.opening_tree_c.proofs.states.opening_tree_compress.Goals as goal

pub returns : goal.returns
returns c =
    let a = c.args in
    entry_buffer c.read-handed.ensures (λ (s : ParameterSet). compress_reply s a.state.now a.node.now) (λ (s : ParameterSet). compressed s a.state.now a.node.now) c.of_outcome.ensures c.compress.ensures
