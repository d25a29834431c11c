use Rattle.std.proofs.Common.{◌∷◌, [], ℕ, ap, sym, ◌∙◌}
use Rattle.refusals.specs.Table.{done}
use Rattle.refusals.proofs.Table.{all_passed}
use Rattle.field_entries.specs.Arithmetic.{sum_reply}
use Rattle.field_entries.proofs.Operands.{operand, both_passed, first_returned, second_returned}
use Rattle.field_entries.proofs.sum.Goals as goal

pub returns-in_err-check_word : goal.returns-in_err-check_word
unfolding sum_reply
returns-in_err-check_word c = first_returned _ _ _ _ _ _ _ _ c.from_residual.ensures.1 c.in_err-check_word.ensures

pub returns-in_err-check_word-2 : goal.returns-in_err-check_word-2
unfolding sum_reply
returns-in_err-check_word-2 c = second_returned _ _ _ _ _ _ _ _ c.from_residual-in_err-check_word-2.ensures.1 c.in_err-check_word-2.ensures

pub sum-requires : goal.sum-requires
sum-requires c = (operand _ _ c.in_ok-check_word.ensures, operand _ _ c.in_ok-check_word-2.ensures)

pub returns : goal.returns
unfolding sum_reply
returns c =
    ap (λ (word : ℕ). done (word ∷ [])) c.sum.ensures
    ∙ sym (both_passed _ _ _ _ _ c.in_ok-check_word.ensures c.in_ok-check_word-2.ensures ∙ all_passed _)
