use mathlib.Core.Path.{◌≡◌, sym, ap, ◌∙◌}
use mathlib.Core.List.{[]}
use native.Mathlib.Omega.{arith}
use lib.ListN.{length}
use Rattle.refusals.proofs.Table.{done_equations, left_as}
use Rattle.refusals.proofs.Answers.{refusal_returned}
use Rattle.reader_entries.specs.Copies.{copy_refusals, copy_reply, copied}
use Rattle.reader_entries.proofs.Copying.{Passed, numbered, passed_refusals, part_long, whole_copy}
use Rattle.reader_entries.proofs.copies.copy_level.Goals as goal
use Rattle.reader_entries.proofs.copies.copy_level.Goals.{After-level_words-words, In_ok-check_copy}

pub returns-in_err-check_copy : goal.returns-in_err-check_copy
unfolding copy_reply copied
returns-in_err-check_copy c = refusal_returned _ _ _ _ _ _ _ c.from_residual.ensures.1 c.in_err-check_copy.ensures

passes : (c : In_ok-check_copy) → Passed c.args.set c.args.siblings.now c.args.level c.args.buffer.now
passes c = passed_refusals _ _ _ _ (sym c.in_ok-check_copy.ensures)

pub level_words-words-requires : goal.level_words-words-requires
level_words-words-requires c = ((passes c).set, (passes c).long, (passes c).level)

-- the level's words are as many as the buffer holds
words_long : (c : After-level_words-words) → length c.level_words-words.result.now ≡ length c.args.buffer.now
words_long c = ap length c.level_words-words.ensures ∙ part_long _ _ _ _ ((passed_refusals _ _ _ _ (sym c.in_ok-check_copy.ensures)))

pub copy_words-requires : goal.copy_words-requires
copy_words-requires c = (omega arith, omega (arith, words_long (goal.at.copy_words-requires c).After-level_words-words))

pub returns : goal.returns
unfolding copy_reply copied
returns c =
    left_as
    (done_equations (copy_refusals _ _ _ _) [] _ _ (numbered _ _ _ _)
    (sym c.in_ok-check_copy.ensures))
    (c.copy_words.ensures ∙ whole_copy _ _ (words_long (goal.at.returns c).After-level_words-words) ∙ c.level_words-words.ensures)
