use mathlib.Core.Path.{sym, ap, ◌∙◌}
use Rattle.fields.specs.Prime.{prime}
use Rattle.refusals.specs.Table.{first_refusal}
use Rattle.refusals.proofs.Answers.{front_returned}
use Rattle.refusals.proofs.Table.{first_back}
use Rattle.parameters.proofs.Accepted.{used_words_first, words_numbered, words_are}
use Rattle.parameters.proofs.check_used.Goals as goal

pub returns-in_err-check_words : goal.returns-in_err-check_words
returns-in_err-check_words c =
    let a = c.args in
    front_returned _ _ _ _ c.from_residual.ensures.1 c.in_err-check_words.ensures
    ∙ sym (ap first_refusal (used_words_first prime a.diagonal.now a.constants.now a.inverses.now a.total_inverse))

pub check_kept-requires : goal.check_kept-requires
check_kept-requires c =
    (c.count_zeros-zero_count.ensures, c.requires.0, words_are prime c.args.diagonal.now c.args.constants.now (sym c.in_ok-check_words.ensures), c.requires.1)

pub returns : goal.returns
returns c =
    let a = c.args in
    c.check_kept.ensures
    ∙ sym (ap first_refusal (used_words_first prime a.diagonal.now a.constants.now a.inverses.now a.total_inverse)
    ∙ first_back _ _ (words_numbered prime a.diagonal.now a.constants.now) (sym c.in_ok-check_words.ensures))
