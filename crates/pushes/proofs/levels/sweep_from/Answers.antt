use Rattle.trees.proofs.SetTrees as tree_of
use Rattle.pushes.proofs.levels.sweep_from.Goals as goal

pub sweep-requires : goal.sweep-requires
sweep-requires c =
    rw c.dimensions-d.ensures (tree_of.valid_set _ c.requires.0, c.requires.1, c.requires.2, c.requires.3, c.requires.4)
