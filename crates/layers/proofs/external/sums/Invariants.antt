use Rattle.std.proofs.Common.{◌≡◌, [], get_or}
use Rattle.blocks.specs.Halves.{plus}
use Rattle.blocks.proofs.Each.{Made}
use Rattle.layers.proofs.external.sums.Given as goal

abbrev pub invariant-loop-i : goal.invariant-loop-i
invariant-loop-i g l = Made (λ k r. r ≡ plus (get_or l.s k []) l.sum) g.row.B l.i l.summed
