use Rattle.fields.specs.Prime.{prime, word_bytes}
use Rattle.files.proofs.MessageBlocks.{Added}
use Rattle.files.proofs.add_inner.Given as goal

abbrev pub invariant-loop-i : goal.invariant-loop-i
invariant-loop-i l = Added prime word_bytes l.rate 0 l.bytes l.initial.state l.i l.state
