-- A line has at most 21 bytes, so that six of them end within the output.
use Rattle.std.proofs.Common.{◌≡◌, ℕ, ◌+◌, ◌<◌, ◌≤◌, List, arith, length, take, get_or, Fits, w64, refl, sym, ap, ◌∙◌}
use lib.Seq.{take-length}
use Rattle.octets.specs.Numbers.{decimal}
use Rattle.encoding.proofs.Texts.{put_more}
use Rattle.program.specs.Program.{newline, lines, written}
use Rattle.program.proofs.Texts.{decimal_word, line, line_length, lines_more, lines_longer, written_more}
use Rattle.program.proofs.put_lines.Goals as goal

short : (words : List ℕ) → ((i : ℕ) → Fits w64 (get_or words i 0)) → (i : ℕ) → length (decimal (get_or words i 0)) ≤ 20
short words fits i = decimal_word (get_or words i 0) (omega (arith, fits i))

pub loop-word-init : goal.loop-word-init
unfolding lines written
loop-word-init c = record { few = omega arith; value = refl; output_after = refl }

pub put_decimal-last-requires : goal.put_decimal-last-requires
put_decimal-last-requires c =
    let i = c.loop-word.word-index in
    omega (arith, c.requires.0, c.requires.1, c.loop-word.auto.output, c.loop-word.invariant.few, short c.args.words.now c.type_inv.words i)

pub bounds-output-last : goal.bounds-output-last
bounds-output-last c =
    let i = c.loop-word.word-index in
    let d = c.put_decimal-last in
    omega (arith, c.requires.0, c.requires.1, c.loop-word.auto.output, c.loop-word.invariant.few, d.ensures.value, d.auto.output, short c.args.words.now c.type_inv.words i)

pub overflow_add-at : goal.overflow_add-at
overflow_add-at c =
    let i = c.loop-word.word-index in
    omega (arith, c.requires.0, c.loop-word.invariant.few, c.put_decimal-last.ensures.value, short c.args.words.now c.type_inv.words i)

pub loop-word-preserved : goal.loop-word-preserved
loop-word-preserved c =
    let i = c.loop-word.word-index in
    let at = c.loop-word.at in
    let words = c.args.words.now in
    let w = get_or words i 0 in
    let d = c.put_decimal-last.ensures in
    let few : length (decimal w) ≤ 20 = short words c.type_inv.words i in
    let within : at + length (decimal w) < length c.loop-word.output = omega (arith, c.requires.0, c.requires.1, c.loop-word.auto.output, c.loop-word.invariant.few) in
    record {
      few = omega (arith, d.value);
      value = omega (arith, d.value, c.loop-word.invariant.value, lines_longer words i c.loop-word-test.true, line_length w);
      output_after =
          written_more c.args.output.now (lines (take i words)) (line w) c.loop-word.invariant.value c.loop-word.invariant.output_after
          (put_more c.loop-word.output (decimal w) at newline within d.value d.output_after refl)
          ∙ ap (λ (text : List ℕ). written text c.args.output.now) (sym (lines_more words i c.loop-word-test.true));
    }

pub returns : goal.returns
returns c =
    let words = c.args.words.now in
    let e : c.loop-word.word-index ≡ length words = omega arith in
    let all : lines (take c.loop-word.word-index words) ≡ lines words = ap (λ (k : ℕ). lines (take k words)) e ∙ ap lines (take-length words) in
    record {
      value = c.loop-word.invariant.value ∙ ap length all;
      output_after = c.loop-word.invariant.output_after ∙ ap (λ (text : List ℕ). written text c.args.output.now) all;
    }
