use mathlib.Core.Path.{◌≡◌, sym, ◌∙◌}
use mathlib.Core.List.{[]}
use Rattle.refusals.specs.Table.{first_refusal}
use Rattle.refusals.proofs.Table.{done_equations}
use Rattle.refusals.proofs.Answers.{refusal_returned}
use Rattle.merkle.specs.Openings.{opening}
use Rattle.trees.specs.SetTrees.{tree_of_set}
use Rattle.trees.proofs.SetTrees.{same_size}
use Rattle.tree_entries.specs.Trees.{open_refusals, open_reply, opened}
use Rattle.trees.proofs.SetTrees as tree_of
use Rattle.tree_entries.proofs.AcceptedTrees as trees
use Rattle.tree_entries.proofs.openings.open.Goals as goal
use Rattle.tree_entries.proofs.openings.open.Goals.{In_ok-check_open}

pub returns-in_err-check_open : goal.returns-in_err-check_open
unfolding open_reply opened
returns-in_err-check_open c = refusal_returned _ _ _ (open_refusals _ _ _ _) [] _ _ c.from_residual.ensures.1 c.in_err-check_open.ensures

none : (c : In_ok-check_open) → let a = c.args in first_refusal (open_refusals a.set a.store.now a.place a.siblings.now) ≡ 0
none c = sym c.in_ok-check_open.ensures

passed : (c : In_ok-check_open) → let a = c.args in trees.Opened a.set a.store.now a.place a.siblings.now
passed c = trees.open_passed _ _ _ _ (none c)

pub dimensions-d-requires : goal.dimensions-d-requires
dimensions-d-requires c = (passed c).set

pub open-requires : goal.open-requires
open-requires c =
    let A = passed (goal.at.open-requires c).In_ok-check_open in
    rw c.dimensions-d.ensures (tree_of.valid_numbers _ A.set, λ D C. A.store_long ∙ same_size _ _ _ D C, A.place, A.siblings_long)

pub shape_of-siblings : goal.shape_of-siblings
shape_of-siblings c =
    let A = passed (goal.at.shape_of-siblings c).In_ok-check_open in
    let s = c.args.set in
    rw (rw c.dimensions-d.ensures at (c.«open».ensures s.diagonal s.constants))
    (((tree_of.laws _ A.set).opened _ _ _ A.store_long A.place).long ∙ sym A.siblings_long)

pub returns : goal.returns
unfolding open_reply opened
returns c =
    let s = c.args.set in
    rw (rw c.dimensions-d.ensures at (c.«open».ensures s.diagonal s.constants))
    (done_equations (open_refusals s _ _ _) [] _ (opening (tree_of_set s) s.height _ _) (trees.open_numbered s _ _ _) (none (goal.at.returns c).In_ok-check_open))
