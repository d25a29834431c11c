use Rattle.std.proofs.Common.{◌≡◌, ◌+◌, ◌*◌, [], drop, get_or}
use Rattle.modular.specs.Goldilocks.{p}
use Rattle.poseidon2.specs.Rounds.{add_constants, seventh_powers}
use Rattle.poseidon2.specs.Residues.{residues}
use Rattle.blocks.specs.Blocks.{four}
use Rattle.blocks.proofs.Each.{Made}
use Rattle.layers.proofs.full.raise.Given as goal

abbrev pub invariant-loop-i : goal.invariant-loop-i
invariant-loop-i g l =
    Made (λ k r. residues p (four r) ≡ seventh_powers p (add_constants p (drop (l.at + 4 * k) l.constants) (four (get_or l.s k [])))) g.row.B l.i l.raised
