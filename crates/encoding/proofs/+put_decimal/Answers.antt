use Rattle.std.proofs.Common.{◌+◌, ◌/◌, ◌%◌, refl, ap, length, arith}
use Rattle.octets.specs.Numbers.{decimal}
use Rattle.octets.proofs.Decimal.{decimal_digit, decimal_more, decimal_longer}
use Rattle.encoding.proofs.Texts.{put_byte, put_more}
use Rattle.encoding.proofs.+put_decimal.Goals as goal

-- one digit
pub bounds-output-at : goal.bounds-output-at
bounds-output-at t c = omega (arith, c.requires, ap length (decimal_digit c.args.n (omega arith)))

pub returns-then-n-lt10 : goal.returns-then-n-lt10
returns-then-n-lt10 t c =
    let digit = decimal_digit c.args.n (omega arith) in
    rw digit (record {
      value = refl;
      output_after = put_byte _ _ _ (omega (arith, c.requires, ap length digit));
    })

-- the digits before the last, and the last
pub put_decimal-last-requires : goal.put_decimal-last-requires
put_decimal-last-requires t c = (omega (arith, c.decreases), omega (arith, c.requires, decimal_longer c.args.n (omega arith)))

pub bounds-output-last : goal.bounds-output-last
bounds-output-last t c = omega (arith, c.requires, c.put_decimal-last.ensures.value, c.put_decimal-last.auto.output, decimal_longer c.args.n (omega arith))

pub overflow_add-result-2 : goal.overflow_add-result-2
overflow_add-result-2 t c = omega (arith, c.requires, c.put_decimal-last.ensures.value, decimal_longer c.args.n (omega arith))

pub returns : goal.returns
returns t c =
    let n = c.args.n in
    let more = decimal_longer n (omega arith) in
    record {
      value = omega (arith, c.put_decimal-last.ensures.value, more);
      output_after = rw (decimal_more n (omega arith)) (put_more c.args.output.now (decimal (n / 10)) c.args.at (48 + n % 10) (omega (arith, c.requires, more)) c.put_decimal-last.ensures.value c.put_decimal-last.ensures.output_after refl);
    }
