use Rattle.trees.proofs.SetTrees as tree_of
use Rattle.pushes.proofs.steps.rewrite_record.Goals as goal

pub rewrite_over-requires : goal.rewrite_over-requires
rewrite_over-requires c =
    rw c.dimensions-d.ensures (tree_of.valid_set _ c.requires.0, c.requires.1, c.requires.2, c.requires.3, c.requires.4, c.requires.5)
