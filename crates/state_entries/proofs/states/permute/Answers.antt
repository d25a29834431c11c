use mathlib.Core.Path.{sym, ap, ◌∙◌}
use mathlib.Core.List.{[]}
use lib.ListN.{length}
use Rattle.fields.proofs.Prime.{prime_field}
use Rattle.poseidon2.proofs.Rounds.{claims}
use Rattle.refusals.proofs.Table.{done_equations, left_as}
use Rattle.refusals.proofs.Answers.{refusal_returned}
use Rattle.state_entries.specs.Permutation.{state_refusals, state_reply, permute_under, permuted}
use Rattle.state_entries.proofs.AcceptedStates.{Accepted, accepted, state_numbered}
use Rattle.state_entries.proofs.states.permute.Goals as goal
use Rattle.state_entries.proofs.states.permute.Goals.{In_ok-check_state}

pub returns-in_err-check_state : goal.returns-in_err-check_state
unfolding state_reply permuted
returns-in_err-check_state c = refusal_returned _ _ _ _ _ _ _ c.from_residual.ensures.1 c.in_err-check_state.ensures

passed : (c : In_ok-check_state) → Accepted c.args.set c.args.state.now
passed c = accepted _ _ (sym c.in_ok-check_state.ensures)

pub permute-requires : goal.permute-requires
permute-requires c =
    let A = passed (goal.at.permute-requires c).In_ok-check_state in
    (A.width, A.half_some, A.half_few, A.partial_few, A.constants, A.long)

pub shape_of-state : goal.shape_of-state
shape_of-state c =
    ap length c.permute.ensures
    ∙ ((claims _ prime_field).sizes.permutation _ _ _ _ _ _ (passed (goal.at.shape_of-state c).In_ok-check_state).width (passed (goal.at.shape_of-state c).In_ok-check_state).long).width ∙ sym (passed (goal.at.shape_of-state c).In_ok-check_state).long

pub returns : goal.returns
unfolding state_reply permuted permute_under
returns c =
    left_as
    (done_equations (state_refusals _ _) [] _ _ (state_numbered _ _) (sym c.in_ok-check_state.ensures))
    c.permute.ensures
