use Prim.Native.Nat.{◌-◌}
use lib.ListN.{length}
use Rattle.modular.specs.Arithmetic.{all_words}
use Rattle.fields.specs.Prime.{prime}
use Rattle.modular.proofs.Undecided.{Undecided}
use Rattle.parameters.proofs.all_words.Given as goal

abbrev pub invariant-loop-i : goal.invariant-loop-i
invariant-loop-i l = Undecided (all_words prime) l.numbers l.i

abbrev pub decreases-loop-i : goal.decreases-loop-i
decreases-loop-i l = length l.numbers - l.i
