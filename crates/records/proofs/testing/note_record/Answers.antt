use mathlib.Core.Bool.{not}
use borrow.Author.Tests.{eq-eqb}
use Rattle.std.proofs.lemmas.Bool.{not-false}
use Rattle.records.specs.Tests.{finding, note_of}
use Rattle.records.proofs.testing.note_record.Goals as goal

pub returns : goal.returns
unfolding note_of
returns c =
    let t = c.args.tally in
    rw (eq-eqb t.number 0 c.if-tally-ne0.false, not-false t.distinct c.if-not-tally.false) (
      λ j. finding t (not (c.note-again.ensures.0 j)),
      c.note-again.ensures.1,
    )
