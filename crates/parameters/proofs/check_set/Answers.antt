use mathlib.Core.Path.{◌≡◌, sym, ap, ◌∙◌}
use mathlib.Core.List.{List}
use Prim.Native.Nat.{ℕ, ◌≤◌}
use native.Mathlib.Omega.{arith}
use lib.ListN.{length, take}
use lib.Seq.{length-take-le}
use borrow.Author.Rules.{rules}
use Rattle.fields.specs.Prime.{prime}
use Rattle.refusals.specs.Table.{first_refusal}
use Rattle.refusals.proofs.Answers.{front_returned}
use Rattle.refusals.proofs.Table.{first_back}
use Rattle.parameters.specs.Refusals.{number_refusals, used_refusals}
use Rattle.parameters.specs.ParameterSet.{used_diagonal, used_inverses, held_refusals, set_refusals}
use Rattle.parameters.specs.declared.Numbers.{Numbers}
use Rattle.parameters.proofs.Accepted as accepted
use Rattle.parameters.proofs.Accepted.{numbers_of_lem, numbers_numbered, width_fits, count_fits}
use Rattle.parameters.proofs.check_set.Goals as goal
use Rattle.parameters.proofs.check_set.Goals.{In_ok-check_numbers}

abbrev number_refusal : Numbers → ℕ
number_refusal n = first_refusal (number_refusals n.width n.node_size n.height n.full_rounds n.partial_rounds)

pub returns-in_err-check_numbers : goal.returns-in_err-check_numbers
unfolding set_refusals held_refusals
returns-in_err-check_numbers c =
    front_returned _ _ _ _ c.from_residual.ensures.1 (c.in_err-check_numbers.ensures ∙ ap number_refusal c.numbers.ensures)

-- none of refusals 1 to 5 applies to the set's numbers
none : (c : In_ok-check_numbers) → let s = c.args.set.now in first_refusal (number_refusals s.width s.node_size s.height s.full_rounds s.partial_rounds) ≡ 0
none c = sym (c.in_ok-check_numbers.ensures ∙ ap number_refusal c.numbers.ensures)

numbers : (c : In_ok-check_numbers) → let s = c.args.set.now in accepted.Numbers s.width s.node_size s.height s.full_rounds s.partial_rounds
numbers c = numbers_of_lem _ _ _ _ _ (none c)

pub used_diagonal-requires : goal.used_diagonal-requires
used_diagonal-requires c = width_fits _ (numbers c).width

pub used_constants-requires : goal.used_constants-requires
used_constants-requires c = count_fits _ _ _ _ _ (numbers (goal.at.used_constants-requires c).In_ok-check_numbers)

pub used_inverses-requires : goal.used_inverses-requires
used_inverses-requires c = width_fits _ (numbers (goal.at.used_inverses-requires c).In_ok-check_numbers).width

-- the used places are as many
fits : (t : ℕ) (D E : List ℕ) → t ≤ length D → t ≤ length E → (length (take t D) ≡ t) × (length (take t E) ≡ length (take t D))
fits t D E g h = (length-take-le t D g, length-take-le t E h ∙ sym (length-take-le t D g))

pub check_used-requires : goal.check_used-requires
unfolding used_diagonal used_inverses
check_used-requires c =
    let s = c.args.set.now in
    let few = width_fits _ (numbers (goal.at.check_used-requires c).In_ok-check_numbers).width in
    let long : length s.diagonal ≡ 12 = search rules in
    let many : length s.inverses ≡ 12 = search rules in
    let L = fits s.width s.diagonal s.inverses (omega (arith, few)) (omega (arith, few)) in
    (omega (arith, few, ap length c.used_diagonal.ensures, L.0), ap length c.used_inverses.ensures ∙ L.1 ∙ sym (ap length c.used_diagonal.ensures))

same_lists : {D E C F es fs : List ℕ} (k : ℕ) → D ≡ E → C ≡ F → es ≡ fs → first_refusal (used_refusals prime D C es k) ≡ first_refusal (used_refusals prime E F fs k)
same_lists k e f g = cc

pub returns : goal.returns
unfolding set_refusals held_refusals
returns c =
    c.check_used.ensures
    ∙ same_lists c.args.set.now.total_inverse c.used_diagonal.ensures c.used_constants.ensures c.used_inverses.ensures
    ∙ sym (first_back _ _ (numbers_numbered _ _ _ _ _) (none (goal.at.returns c).In_ok-check_numbers))
