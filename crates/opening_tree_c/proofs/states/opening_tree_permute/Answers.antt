use Rattle.parameters.specs.declared.ParameterSet.{ParameterSet}
use Rattle.state_entries.specs.Permutation.{state_reply, permuted}
use Rattle.opening_tree_c.proofs.Calls.{entry_buffer}
use Rattle.opening_tree_c.proofs.states.opening_tree_permute.Goals as goal

pub returns : goal.returns
returns c =
    let a = c.args in
    entry_buffer c.read-handed.ensures (λ (s : ParameterSet). state_reply s a.state.now) (λ (s : ParameterSet). permuted s a.state.now) c.of_outcome.ensures c.permute.ensures
