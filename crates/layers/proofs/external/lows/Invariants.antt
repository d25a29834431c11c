use Rattle.std.proofs.Common.{◌≡◌, ◌%◌, [], map, get_or}
use Rattle.blocks.specs.Blocks.{four}
use Rattle.blocks.specs.Halves.{Within}
use Rattle.blocks.proofs.Each.{Made}
use Rattle.layers.proofs.external.lows.Given as goal

abbrev pub invariant-loop-i : goal.invariant-loop-i
invariant-loop-i g l = Made (λ k r. (four r ≡ map (λ n. n % 4294967296) (four (get_or l.s k []))) × Within 4294967295 r) g.row.B l.i l.parts
