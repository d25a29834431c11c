use Rattle.std.proofs.Common.{◌%◌, arith}
use Rattle.modular.specs.Goldilocks.{p}
use Rattle.poseidon2.specs.Residues.{residues}
use Rattle.blocks.proofs.Each.{map_all}
use Rattle.permutation.proofs.words.Goals as goal

pub returns : goal.returns
unfolding residues
returns g c = map_all (λ x. x % p) g.row.B c.args.s c.loop-i.words (λ k h. c.loop-i.invariant.at k (omega arith))
