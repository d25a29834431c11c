use Rattle.std.proofs.Common.{◌∷◌, [], ℕ, ap, sym, ◌∙◌}
use Rattle.refusals.specs.Table.{done}
use Rattle.refusals.proofs.Table.{all_passed}
use Rattle.field_entries.specs.Arithmetic.{difference_reply}
use Rattle.field_entries.proofs.Operands.{operand, both_passed, first_returned, second_returned}
use Rattle.field_entries.proofs.difference.Goals as goal

pub returns-in_err-check_word : goal.returns-in_err-check_word
unfolding difference_reply
returns-in_err-check_word c = first_returned _ _ _ _ _ _ _ _ c.from_residual.ensures.1 c.in_err-check_word.ensures

pub returns-in_err-check_word-2 : goal.returns-in_err-check_word-2
unfolding difference_reply
returns-in_err-check_word-2 c = second_returned _ _ _ _ _ _ _ _ c.from_residual-in_err-check_word-2.ensures.1 c.in_err-check_word-2.ensures

pub difference-requires : goal.difference-requires
difference-requires c = (operand _ _ c.in_ok-check_word.ensures, operand _ _ c.in_ok-check_word-2.ensures)

pub returns : goal.returns
unfolding difference_reply
returns c =
    ap (λ (word : ℕ). done (word ∷ [])) c.difference.ensures
    ∙ sym (both_passed _ _ _ _ _ c.in_ok-check_word.ensures c.in_ok-check_word-2.ensures ∙ all_passed _)
