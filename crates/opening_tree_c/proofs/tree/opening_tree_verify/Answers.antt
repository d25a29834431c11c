use Rattle.parameters.specs.declared.ParameterSet.{ParameterSet}
use Rattle.tree_entries.specs.Trees.{verify_reply}
use Rattle.opening_tree_c.proofs.Calls.{entry_verdict}
use Rattle.opening_tree_c.proofs.tree.opening_tree_verify.Goals as goal

pub returns : goal.returns
returns c =
    let a = c.args in
    entry_verdict c.read-handed.ensures (λ (s : ParameterSet). verify_reply s a.root.now a.place a.leaf.now a.siblings.now) c.of_verdict.ensures c.verify.ensures
