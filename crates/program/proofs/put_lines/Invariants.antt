-- The lines of the words so far stand at the output's start.
use Rattle.std.proofs.Common.{◌≡◌, ◌*◌, ◌-◌, ◌≤◌, length, take}
use Rattle.program.specs.Program.{lines, written}
use Rattle.program.proofs.put_lines.Given as goal

abbrev pub invariant-loop-word : goal.invariant-loop-word
invariant-loop-word l = record {
  few : l.at ≤ 21 * l.word-index;
  value : l.at ≡ length (lines (take l.word-index l.words));
  output_after : l.output ≡ written (lines (take l.word-index l.words)) l.initial.output;
}
