use Rattle.std.proofs.Common.{◌≡◌, ◌*◌, [], drop, get_or}
use Rattle.modular.specs.Goldilocks.{p}
use Rattle.poseidon2.specs.Layers.{plus_multiples}
use Rattle.poseidon2.specs.Residues.{residues}
use Rattle.blocks.specs.Blocks.{four}
use Rattle.blocks.proofs.Each.{Made, Behind}
use Rattle.layers.proofs.partial.multiples.Given as goal

abbrev pub invariant-loop-i : goal.invariant-loop-i
invariant-loop-i g l =
    Made (Behind (get_or l.initial.next 0 []) (λ k r. residues p (four r) ≡ plus_multiples p l.q (drop (4 * k) l.diagonal) (four (get_or l.s k []))))
    g.row.B l.i l.next
