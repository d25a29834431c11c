use Rattle.std.proofs.Common.{◌≡◌, ◌+◌, ◌*◌, take, drop}
use Rattle.blocks.specs.Blocks.{four}
use Rattle.blocks.proofs.Each.{Made}
use Rattle.permutation.proofs.rounds.load.Given as goal

abbrev pub invariant-loop-i : goal.invariant-loop-i
invariant-loop-i g l = Made (λ k r. four r ≡ take 4 (drop (l.at + 4 * k) l.list)) g.row.B l.i l.s
