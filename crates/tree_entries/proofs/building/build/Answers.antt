use mathlib.Core.Path.{sym, ◌∙◌}
use mathlib.Core.List.{[]}
use Rattle.refusals.proofs.Table.{done_equations}
use Rattle.refusals.proofs.Answers.{refusal_returned}
use Rattle.tree_entries.specs.Trees.{build_refusals, build_reply, built}
use Rattle.trees.proofs.SetTrees as tree_of
use Rattle.tree_entries.proofs.AcceptedTrees as trees
use Rattle.tree_entries.proofs.building.build.Goals as goal
use Rattle.tree_entries.proofs.building.build.Goals.{In_ok-check_build}

pub returns-in_err-check_build : goal.returns-in_err-check_build
unfolding build_reply built
returns-in_err-check_build c = refusal_returned _ _ _ (build_refusals _ _ _) [] _ _ c.from_residual.ensures.1 c.in_err-check_build.ensures

passed : (c : In_ok-check_build) → trees.Built c.args.set c.args.leaves.now c.args.store.now
passed c = trees.build_passed _ _ _ (sym c.in_ok-check_build.ensures)

pub dimensions-d-requires : goal.dimensions-d-requires
dimensions-d-requires c = (passed c).set

pub build-requires : goal.build-requires
build-requires c =
    let A = passed (goal.at.build-requires c).In_ok-check_build in
    rw c.dimensions-d.ensures (tree_of.valid_set _ A.set, A.leaves_long, A.store_long)

pub shape_of-store : goal.shape_of-store
shape_of-store c =
    let A = passed (goal.at.shape_of-store c).In_ok-check_build in
    rw (c.build.ensures, c.dimensions-d.ensures) (((tree_of.laws _ A.set).building _ _ A.leaves_long).is_store.whole ∙ sym A.store_long)

pub returns : goal.returns
unfolding build_reply built
returns c =
    rw (c.build.ensures, c.dimensions-d.ensures)
    (done_equations (build_refusals _ _ _) [] _ _ (trees.build_numbered _ _ _) (sym c.in_ok-check_build.ensures))
