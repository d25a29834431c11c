use native.Mathlib.Omega.{arith}
use Rattle.trees.proofs.Shapes.{node_small}
use Rattle.storeless.proofs.Recursion.{at_root, root_copied}
use Rattle.storeless.proofs.storeless_root.Goals as goal

pub node-x-requires : goal.node-x-requires
node-x-requires c = at_root c.requires.0 c.requires.1

pub copy_words-requires : goal.copy_words-requires
copy_words-requires c =
    omega (arith, node_small c.requires.0.numbers, c.requires.2)

pub returns : goal.returns
returns c =
    let a = c.args in
    root_copied a.d a.diagonal.now a.constants.now a.leaves.now c.requires.0 c.requires.1 c.node-x.result a.node.now _ c.requires.2 c.node-x.ensures c.copy_words.ensures
