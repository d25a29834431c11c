use Rattle.poseidon2.specs.Residues.{residues}
use Rattle.blocks.proofs.Lists.{four_eq}
use Rattle.permutation.proofs.block_words.Goals as goal

pub returns : goal.returns
unfolding residues
returns c = four_eq c.residue.ensures c.residue-2.ensures c.residue-3.ensures c.residue-4.ensures
