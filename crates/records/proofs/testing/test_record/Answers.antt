use mathlib.Core.Path.{◌≡◌, ap, ◌∙◌}
use mathlib.Core.Bool.{Bool, ◌&&◌}
use lib.Dec.{ltb, leb}
use borrow.Author.Tests.{eq-eqb}
use Rattle.modular.specs.Arithmetic.{all_words}
use Rattle.parameters.specs.ParameterSet.{prime_of}
use Rattle.records.specs.Records.{leaf_of}
use Rattle.records.specs.Tests.{fresh_of, test_of}
use Rattle.records.proofs.Both.{both_asked, second_unasked}
use Rattle.records.proofs.testing.test_record.Goals as goal
use Rattle.records.proofs.testing.test_record.Goals.{then-tally, else-tally, then-tally-2, else-tally-2, then-tally-3, else-tally-3, then-tally-4, else-tally-4}

pub returns : goal.returns
unfolding test_of
returns c =
    let t = c.args.tally in
    let r = c.args.item in
    let rises : c.if-tally.rises ≡ (t.rising && leb t.above r.place) = elim c.if-tally.branch [
      | then-tally w ↦ both_asked w.if-tally.true w.rises-is
      | else-tally w ↦ second_unasked _ w.if-tally.false w.rises-is
    ] in
    let placed : c.if-tally-2.result ≡ (t.placed && ltb r.place t.places) = elim c.if-tally-2.branch [
      | then-tally-2 w ↦ both_asked w.if-tally-2.true w.result-is
      | else-tally-2 w ↦ second_unasked _ w.if-tally-2.false w.result-is
    ] in
    let words : c.if-tally-3.result ≡ (t.words && all_words (prime_of c.args.set) (leaf_of c.args.set.node_size r)) = elim c.if-tally-3.branch [
      | then-tally-3 w ↦ both_asked w.if-tally-3.true (w.result-is ∙ w.leaf_is_words.ensures)
      | else-tally-3 w ↦ second_unasked _ w.if-tally-3.false w.result-is
    ] in
    let distinct : c.if-tally-4.result ≡ (t.distinct && c.keep_place-fresh.result) = elim c.if-tally-4.branch [
      | then-tally-4 w ↦ both_asked w.if-tally-4.true w.result-is
      | else-tally-4 w ↦ second_unasked _ w.if-tally-4.false w.result-is
    ] in
    let fresh = c.keep_place-fresh.ensures.0 ∙ ap (λ (b : Bool). fresh_of t.few t.kept b r.place c.args.seen.now) rises in
    rw (eq-eqb t.number 0 c.if-tally-ne0.false) (
      λ j. record {
        number = c.if-tally-ne0.false j;
        places = t.places;
        placed = placed j;
        words = words j;
        distinct = (distinct ∙ ap (λ (b : Bool). t.distinct && b) fresh) j;
        rising = rises j;
        above = c.above.ensures j;
        few = t.few;
        kept = c.one_more.ensures j;
        levels = t.levels;
        before = t.before;
        under = t.under;
        made = t.made;
      },
      c.keep_place-fresh.ensures.1,
    )
