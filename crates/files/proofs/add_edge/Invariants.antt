use Rattle.fields.specs.Prime.{prime, word_bytes}
use Rattle.files.proofs.MessageBytes.{marked}
use Rattle.files.proofs.MessageBlocks.{Added}
use Rattle.files.proofs.add_edge.Given as goal

abbrev pub invariant-loop-i : goal.invariant-loop-i
invariant-loop-i l = Added prime word_bytes l.rate l.from (marked l.head l.contents) l.initial.state l.i l.state
