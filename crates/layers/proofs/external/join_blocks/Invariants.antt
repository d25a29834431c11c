use Rattle.std.proofs.Common.{◌≡◌, [], get_or}
use Rattle.modular.specs.Goldilocks.{p}
use Rattle.poseidon2.specs.Residues.{residues}
use Rattle.blocks.specs.Blocks.{four}
use Rattle.blocks.specs.Halves.{joins}
use Rattle.blocks.proofs.Each.{Made}
use Rattle.layers.proofs.external.join_blocks.Given as goal

abbrev pub invariant-loop-i : goal.invariant-loop-i
invariant-loop-i g l =
    Made (λ k r. residues p (four r) ≡ residues p (joins (four (get_or l.h k [])) (four (get_or l.l k [])))) g.row.B l.i l.joined
