use Rattle.std.proofs.Common.{◌∷◌, [], ℕ, ap, sym, ◌∙◌}
use Rattle.refusals.specs.Table.{done}
use Rattle.refusals.proofs.Table.{all_passed}
use Rattle.field_entries.specs.Arithmetic.{seventh_root_reply}
use Rattle.field_entries.proofs.Operands.{operand, operand_passed, operand_returned}
use Rattle.field_entries.proofs.seventh_root.Goals as goal

pub returns-in_err-check_word : goal.returns-in_err-check_word
unfolding seventh_root_reply
returns-in_err-check_word c = operand_returned _ _ _ _ _ _ _ c.from_residual.ensures.1 c.in_err-check_word.ensures

pub seventh_root-requires : goal.seventh_root-requires
seventh_root-requires c = operand _ _ c.in_ok-check_word.ensures

pub returns : goal.returns
unfolding seventh_root_reply
returns c =
    ap (λ (word : ℕ). done (word ∷ [])) c.seventh_root.ensures
    ∙ sym (operand_passed _ _ _ _ c.in_ok-check_word.ensures ∙ all_passed _)
