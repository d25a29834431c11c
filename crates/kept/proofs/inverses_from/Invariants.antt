-- The loop's invariant: so many inverses are made from the last on, and `left` is the inverse of the product of the words before.
use Rattle.fields.specs.Prime.{prime}
use Rattle.fields.proofs.Prime.{prime_field}
use Rattle.kept.proofs.Inverting.{Made}
use Rattle.kept.proofs.inverses_from.Given as goal

abbrev pub invariant-loop-i : goal.invariant-loop-i
invariant-loop-i l = Made prime prime_field l.diagonal l.i l.inverses l.left
