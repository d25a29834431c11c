-- The refusal's number has at most three digits, so that the line ends within the output.
use Rattle.std.proofs.Common.{◌+◌, ◌<◌, arith, length, refl, ◌∙◌}
use Rattle.octets.specs.Numbers.{decimal}
use Rattle.encoding.proofs.Texts.{put_more}
use Rattle.program.specs.Program.{newline, refused_word, refused_line}
use Rattle.program.proofs.Texts.{decimal_byte, line, line_length, written_put, written_more}
use Rattle.program.proofs.put_refused.Goals as goal

pub put_decimal-end-requires : goal.put_decimal-end-requires
put_decimal-end-requires c =
    let w = c.put_bytes-at in
    omega (arith, c.requires, w.ensures.value, w.auto.output, decimal_byte c.number-number.result (omega arith))

pub bounds-output-end : goal.bounds-output-end
bounds-output-end c =
    let w = c.put_bytes-at in
    let d = c.put_decimal-end in
    omega (arith, c.requires, w.ensures.value, w.auto.output, d.ensures.value, d.auto.output, decimal_byte c.number-number.result (omega arith))

pub overflow_add-result : goal.overflow_add-result
overflow_add-result c = omega (arith, c.put_bytes-at.ensures.value, c.put_decimal-end.ensures.value, decimal_byte c.number-number.result (omega arith))

pub returns-clause-value : goal.returns-clause-value
unfolding refused_line
returns-clause-value c = rw (← c.number-number.ensures) (omega (arith, c.put_bytes-at.ensures.value, c.put_decimal-end.ensures.value, line_length c.number-number.result))

pub returns-clause-output_after : goal.returns-clause-output_after
unfolding refused_line
returns-clause-output_after c =
    let w = c.put_bytes-at in
    let d = c.put_decimal-end in
    let k = c.number-number.result in
    let within : w.result + length (decimal k) < length w.new.output = omega (arith, c.requires, w.ensures.value, w.auto.output, decimal_byte k (omega arith)) in
    rw (← c.number-number.ensures)
    (written_more c.args.output.now refused_word (line k) w.ensures.value (w.ensures.output_after ∙ written_put _ _)
    (put_more w.new.output (decimal k) w.result newline within d.ensures.value d.ensures.output_after refl))
