use Rattle.poseidon2.specs.Layers.{add_lists}
use Rattle.blocks.proofs.Lists.{four_eq}
use Rattle.inversion.proofs.external.add_blocks.Goals as goal

pub sum-requires : goal.sum-requires
sum-requires c = (c.requires.0.at 0, c.requires.1.at 0)

pub sum-requires-2 : goal.sum-requires-2
sum-requires-2 c = (c.requires.0.at 1, c.requires.1.at 1)

pub sum-requires-3 : goal.sum-requires-3
sum-requires-3 c = (c.requires.0.at 2, c.requires.1.at 2)

pub sum-requires-4 : goal.sum-requires-4
sum-requires-4 c = (c.requires.0.at 3, c.requires.1.at 3)

pub returns : goal.returns
unfolding add_lists
returns c = four_eq c.sum.ensures c.sum-2.ensures c.sum-3.ensures c.sum-4.ensures
