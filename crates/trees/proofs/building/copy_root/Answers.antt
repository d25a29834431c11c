use Rattle.trees.proofs.Filling.{root_copied}
use Rattle.trees.proofs.building.copy_root.Goals as goal

pub returns : goal.returns
returns c =
    let a = c.args in
    root_copied a.d a.store.now a.node.now _ c.requires.0 c.requires.1 c.copy_words.ensures
