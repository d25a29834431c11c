use Rattle.std.proofs.Common.{◌≡◌, [], get_or}
use Rattle.blocks.specs.Blocks.{four}
use Rattle.blocks.specs.Halves.{exact_m4, Within}
use Rattle.blocks.proofs.Each.{Made}
use Rattle.layers.proofs.external.m4_blocks.Given as goal

abbrev pub invariant-loop-i : goal.invariant-loop-i
invariant-loop-i g l = Made (λ k r. (r ≡ exact_m4 (four (get_or l.s k []))) × Within 274877906880 r) g.row.B l.i l.multiplied
