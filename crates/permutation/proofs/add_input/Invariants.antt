use Rattle.std.proofs.Common.{◌≡◌, ◌+◌, ◌*◌, [], drop, get_or}
use Rattle.modular.specs.Goldilocks.{p}
use Rattle.poseidon2.specs.Layers.{add_lists}
use Rattle.poseidon2.specs.Residues.{residues}
use Rattle.blocks.specs.Blocks.{four}
use Rattle.blocks.proofs.Each.{Made}
use Rattle.permutation.proofs.add_input.Given as goal

abbrev pub invariant-loop-i : goal.invariant-loop-i
invariant-loop-i g l =
    Made (λ k r. four r ≡ add_lists p (residues p (four (get_or l.s k []))) (drop (l.at + 4 * k) l.list)) g.row.B l.i l.added
