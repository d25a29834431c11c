use Rattle.permutation.proofs.halves.m4_blocks.Goals as goal

pub returns-in-4 : goal.returns-in-4
returns-in-4 c = c.m4_blocks_of.ensures
