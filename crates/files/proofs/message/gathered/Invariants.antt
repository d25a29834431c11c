use Rattle.fields.specs.Prime.{word_bytes}
use Rattle.files.proofs.MessageBytes.{marked, Gathered}
use Rattle.files.proofs.message.gathered.Given as goal

abbrev pub invariant-loop-i : goal.invariant-loop-i
invariant-loop-i l = Gathered word_bytes l.at (marked l.head l.contents) l.i l.word
