use Rattle.std.proofs.Common.{arith, ◌∷◌, [], ℕ, ap, sym, ◌∙◌}
use borrow.Author.Tests.{eq-eqb, ne_eqb}
use Rattle.refusals.specs.Table.{done}
use Rattle.refusals.proofs.Table.{all_passed, applied, passed}
use Rattle.field_entries.specs.Arithmetic.{inverse_reply}
use Rattle.field_entries.proofs.Operands.{operand, operand_passed, operand_returned}
use Rattle.field_entries.proofs.inverse.Goals as goal

pub returns-in_err-check_word : goal.returns-in_err-check_word
unfolding inverse_reply
returns-in_err-check_word c = operand_returned _ _ _ _ _ _ _ c.from_residual.ensures.1 c.in_err-check_word.ensures

pub returns-then-x-eq0 : goal.returns-then-x-eq0
unfolding inverse_reply
returns-then-x-eq0 c = sym (operand_passed _ _ _ _ c.in_ok-check_word.ensures ∙ applied 13 _ _ _ (eq-eqb _ 0 c.if-x-eq0.true))

pub inverse-requires : goal.inverse-requires
inverse-requires c = (omega (arith, c.if-x-eq0.false), operand _ _ c.in_ok-check_word.ensures)

pub returns : goal.returns
unfolding inverse_reply
returns c =
    ap (λ (word : ℕ). done (word ∷ [])) c.inverse.ensures
    ∙ sym (operand_passed _ _ _ _ c.in_ok-check_word.ensures ∙ passed 13 _ _ _ (ne_eqb _ 0 c.if-x-eq0.false) ∙ all_passed _)
