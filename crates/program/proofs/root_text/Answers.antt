use Rattle.std.proofs.Common.{◌≡◌, true, arith, length, sym}
use lib.Seq.{length-take-le}
use Rattle.program.specs.Program.{bad_byte_count}
use Rattle.program.proofs.ProgramReply.{count_short, count_long, count_odd, count_right, text_of_bad_count, text_of_numbers}
use Rattle.program.proofs.Texts.{written_as}
use Rattle.program.proofs.root_text.Goals as goal
use Rattle.program.proofs.root_text.Goals.{After-put_refused, then-input-lt40-via-then-input-lt40, then-input-lt40-via-else-input-lt40+then-input-gt65536, then-input-lt40-via-else-input-lt40+else-input-gt65536+then-input-ne0}

bad : (c : After-put_refused) → bad_byte_count (length c.args.input.now) ≡ true
bad c = elim c.then-input-lt40.branch [
  | then-input-lt40-via-then-input-lt40 w ↦ count_short _ w.if-input-lt40.true
  | then-input-lt40-via-else-input-lt40+then-input-gt65536 w ↦ count_long _ w.if-input-lt40.false w.if-input-gt65536.true
  | then-input-lt40-via-else-input-lt40+else-input-gt65536+then-input-ne0 w ↦ count_odd _ w.if-input-lt40.false w.if-input-gt65536.false w.if-input-ne0.true
]

pub returns-then-input-lt40 : goal.returns-then-input-lt40
returns-then-input-lt40 c =
    let f = c.put_refused.ensures in
    let whole = written_as (text_of_bad_count _ (bad c)) _ f.value f.output_after in record { value = whole.value; output_after = whole.output_after }

pub slice_bounds-text_of-end : goal.slice_bounds-text_of-end
slice_bounds-text_of-end c =
    let d = c.decode-count in
    sym (length-take-le _ _ (omega (arith, d.ensures.0, d.auto.numbers, c.if-input-gt65536.false)))

pub returns : goal.returns
returns c =
    let f = c.text_of.ensures in
    let d = c.decode-count.ensures in
    let whole = written_as (text_of_numbers _ _ _ (count_right _ c.if-input-lt40.false c.if-input-gt65536.false c.if-input-ne0.false) d.0 d.1) _ f.value f.output_after in record { value = whole.value; output_after = whole.output_after }
