use Rattle.blocks.proofs.Lists.{four_residues}
use Rattle.layers.proofs.external.join_block.Goals as goal

pub returns : goal.returns
returns c = four_residues c.join.ensures c.join-2.ensures c.join-3.ensures c.join-4.ensures
