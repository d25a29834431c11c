use mathlib.Core.Path.{◌≡◌, sym, ap, ◌∙◌}
use mathlib.Core.List.{List, [], ◌∷◌}
use Rattle.fields.specs.Prime.{prime}
use Rattle.refusals.specs.Table.{refusal, first_refusal}
use Rattle.refusals.proofs.Answers.{front_returned}
use Rattle.refusals.proofs.Table.{first_back, refusal_applies, refusal_passes}
use Prim.Native.Nat.{ℕ}
use Rattle.parameters.specs.Refusals.{bad_diagonal, word_refusals, list_refusals}
use Rattle.parameters.proofs.Accepted.{words_first, words_numbered, words_are}
use Rattle.parameters.proofs.check_lists.Goals as goal

pub returns-in_err-check_words : goal.returns-in_err-check_words
returns-in_err-check_words c =
    let a = c.args in
    front_returned _ _ _ _ c.from_residual.ensures.1 c.in_err-check_words.ensures ∙ sym (ap first_refusal (words_first prime a.diagonal.now a.constants.now))

pub bad_diagonal-requires : goal.bad_diagonal-requires
bad_diagonal-requires c =
    (c.count_zeros-zero_count.ensures, c.requires, words_are prime c.args.diagonal.now c.args.constants.now (sym c.in_ok-check_words.ensures))

-- 9 alone is left
nine-left : (D C : List ℕ) → 0 ≡ first_refusal (word_refusals prime D C) → first_refusal (list_refusals prime D C) ≡ first_refusal (refusal 9 (bad_diagonal prime D) ∷ [])
nine-left D C z = ap first_refusal (words_first prime D C) ∙ first_back _ _ (words_numbered prime D C) (sym z)

pub returns-then-bad_diagonal : goal.returns-then-bad_diagonal
returns-then-bad_diagonal c = sym (nine-left _ _ c.in_ok-check_words.ensures ∙ refusal_applies 9 _ _ (sym c.if-bad_diagonal.ensures))

pub returns : goal.returns
unfolding first_refusal
returns c = sym (nine-left _ _ c.in_ok-check_words.ensures ∙ refusal_passes 9 _ [] (sym c.if-bad_diagonal.ensures))
