use mathlib.Core.Path.{sym, ◌∙◌}
use mathlib.Core.List.{[]}
use Rattle.refusals.specs.Table.{first_refusal}
use Rattle.refusals.proofs.Answers.{front_returned}
use Rattle.refusals.proofs.Table.{refusal_applies, refusal_passes, first_back}
use Rattle.parameters.specs.Refusals.{shape_refusals}
use Rattle.parameters.proofs.Accepted.{numbers_of_lem, numbers_numbered, width_fits}
use Rattle.parameters.proofs.check_shape.Goals as goal

pub returns-in_err-check_numbers : goal.returns-in_err-check_numbers
unfolding shape_refusals
returns-in_err-check_numbers c = front_returned _ _ _ _ c.from_residual.ensures.1 c.in_err-check_numbers.ensures

pub bad_lengths-requires : goal.bad_lengths-requires
bad_lengths-requires c =
    let N = numbers_of_lem _ _ _ _ _ (sym c.in_ok-check_numbers.ensures) in
    (width_fits _ N.width, N.rounds.few, N.rounds.few_partial)

pub returns-then-bad_lengths : goal.returns-then-bad_lengths
unfolding shape_refusals
returns-then-bad_lengths c =
    sym (first_back _ _ (numbers_numbered _ _ _ _ _) (sym c.in_ok-check_numbers.ensures) ∙ refusal_applies 6 _ _ (sym c.if-bad_lengths.ensures))

pub returns : goal.returns
unfolding shape_refusals first_refusal
returns c =
    sym (first_back _ _ (numbers_numbered _ _ _ _ _) (sym c.in_ok-check_numbers.ensures) ∙ refusal_passes 6 _ [] (sym c.if-bad_lengths.ensures))
