use mathlib.Core.Path.{◌≡◌, sym, ap, ◌∙◌}
use mathlib.Core.List.{List, []}
use Prim.Native.Nat.{ℕ, ◌/◌}
use lib.ListN.{length}
use borrow.Author.Rules.{rules}
use Rattle.fields.proofs.Prime.{positive, prime_field}
use Rattle.poseidon2.proofs.Rounds.{claims}
use Rattle.refusals.proofs.Table.{done_equations, left_as}
use Rattle.refusals.proofs.Answers.{refusal_returned}
use Rattle.parameters.specs.ParameterSet.{prime_of}
use Rattle.parameters.specs.declared.ParameterSet.{ParameterSet}
use Rattle.inversion.specs.Kept.{unpermute_by}
use Rattle.inversion.proofs.Kept.{own}
use Rattle.state_entries.specs.Permutation.{state_refusals, state_reply, unpermute_under, unpermuted}
use Rattle.parameters.proofs.AcceptedSets.{state_of, used_at}
use Rattle.state_entries.proofs.AcceptedStates.{Accepted, accepted, state_numbered}
use Rattle.state_entries.proofs.states.unpermute.Goals as goal
use Rattle.state_entries.proofs.states.unpermute.Goals.{In_ok-check_state}

pub returns-in_err-check_state : goal.returns-in_err-check_state
unfolding state_reply unpermuted
returns-in_err-check_state c = refusal_returned _ _ _ _ _ _ _ c.from_residual.ensures.1 c.in_err-check_state.ensures

passed : (c : In_ok-check_state) → Accepted c.args.set c.args.state.now
passed c = accepted _ _ (sym c.in_ok-check_state.ensures)

-- the set has twelve places for D
places : (c : In_ok-check_state) → length c.args.set.diagonal ≡ 12
places c = search rules

pub unpermute-requires : goal.unpermute-requires
unpermute-requires c =
    let A = passed (goal.at.unpermute-requires c).In_ok-check_state in
    record {
      width = A.width;
      some_full = A.half_some;
      full = A.half_few;
      partial = A.partial_few;
      constants = record { at = λ i b. used_at _ _ _ A.constants i b };
      state = state_of _ _ _ positive A.long A.words;
    }

-- what is kept is D's own, so that what is made by it is the inverse permutation
own_state : (s : ParameterSet) (xs : List ℕ) {ys : List ℕ} → Accepted s xs → length s.diagonal ≡ 12
    → ys ≡ unpermute_by (prime_of s) s.width (s.full_rounds / 2) s.partial_rounds s.inverses s.total_inverse s.constants xs
    → ys ≡ unpermute_under s xs
unfolding unpermute_under
own_state s xs A long e =
    e
    ∙ ap (λ (k : ℕ). unpermute_by (prime_of s) s.width (s.full_rounds / 2) s.partial_rounds s.inverses k s.constants xs) A.total
    ∙ own s.width (s.full_rounds / 2) s.partial_rounds s.diagonal s.inverses s.constants xs (A.diagonal long).words A.inverses A.long

pub shape_of-state : goal.shape_of-state
unfolding unpermute_under
shape_of-state c =
    let A = passed (goal.at.shape_of-state c).In_ok-check_state in
    ap length (own_state _ _ A (places (goal.at.shape_of-state c).In_ok-check_state) c.unpermute.ensures)
    ∙ (((claims _ prime_field).invertible.permutation _ _ _ _ _ A.width (A.diagonal (places (goal.at.shape_of-state c).In_ok-check_state))).from _ (state_of _ _ _ positive A.long A.words)).width
    ∙ sym A.long

pub returns : goal.returns
unfolding state_reply unpermuted
returns c =
    left_as
    (done_equations (state_refusals _ _) [] _ _ (state_numbered _ _) (sym c.in_ok-check_state.ensures))
    (own_state _ _ (passed (goal.at.returns c).In_ok-check_state) (places (goal.at.returns c).In_ok-check_state) c.unpermute.ensures)
