use mathlib.Core.Path.{◌≡◌, refl, sym, ◌∙◌}
use mathlib.Core.List.{List}
use Prim.Native.Nat.{ℕ}
use lib.ListN.{length}
use Rattle.fields.specs.Prime.{prime}
use Rattle.fields.proofs.Prime.{positive}
use Rattle.poseidon2.specs.Statements.{AcceptedDiagonal}
use Rattle.refusals.specs.Table.{first_refusal}
use Rattle.refusals.proofs.Answers.{nonzero}
use Rattle.parameters.specs.Refusals.{list_refusals}
use Rattle.parameters.proofs.Accepted.{shape_fits, lists_of}
use Rattle.parameters.proofs.AcceptedSets.{state_of, accepted_diagonal}
use Rattle.parameters.proofs.Answers.{refused_by, accepted_is, by_shape, by_lists}
use Rattle.parameters.proofs.validate.Goals as goal

pub returns-in_err-check_shape : goal.returns-in_err-check_shape
returns-in_err-check_shape c =
    refused_by prime _ _ _ _ _ _ _ _ _ c.from_residual.ensures.1 (by_shape prime _ _ _ _ _ _ _ _ c.in_err-check_shape.ensures (nonzero _))

pub check_lists-requires : goal.check_lists-requires
check_lists-requires c = (shape_fits _ _ _ _ _ _ _ (sym c.in_ok-check_shape.ensures)).0

pub returns-in_err-check_lists : goal.returns-in_err-check_lists
returns-in_err-check_lists c =
    refused_by prime _ _ _ _ _ _ _ _ _ c.from_residual-in_err-check_lists.ensures.1 (c.in_err-check_lists.ensures ∙ by_lists prime _ _ _ _ _ _ _ (sym c.in_ok-check_shape.ensures))

-- a D that is not refused
diagonal_of : (D C : List ℕ) → first_refusal (list_refusals prime D C) ≡ 0 → AcceptedDiagonal prime (length D) D
diagonal_of D C z =
    let L = lists_of prime D C z in
    accepted_diagonal prime (length D) D (state_of prime (length D) D positive refl L.diagonal) L.few_zeros L.sum

pub held-requires : goal.held-requires
held-requires c =
    let F = shape_fits _ _ _ _ _ _ _ (sym c.in_ok-check_shape.ensures) in
    (F.0, F.1, diagonal_of _ _ (sym c.in_ok-check_lists.ensures))

pub returns : goal.returns
returns c =
    accepted_is prime _ _ _ _ _ _ _ _ c.held.ensures
    (sym (by_lists prime _ _ _ _ _ _ _ (sym c.in_ok-check_shape.ensures)) ∙ sym c.in_ok-check_lists.ensures)
