use Rattle.std.proofs.Common.{◌≡◌, [], get_or}
use Rattle.modular.specs.Goldilocks.{p}
use Rattle.poseidon2.specs.Residues.{residues}
use Rattle.blocks.specs.Blocks.{four}
use Rattle.blocks.proofs.Each.{Made}
use Rattle.permutation.proofs.words.Given as goal

abbrev pub invariant-loop-i : goal.invariant-loop-i
invariant-loop-i g l = Made (λ k r. four r ≡ residues p (four (get_or l.s k []))) g.row.B l.i l.words
