use mathlib.Core.Path.{sym, ◌∙◌}
use mathlib.Core.List.{[]}
use Rattle.refusals.proofs.Table.{done_equations}
use Rattle.refusals.proofs.Answers.{refusal_returned}
use Rattle.tree_entries.specs.Trees.{storeless_refusals, storeless_reply, storeless_rooted}
use Rattle.trees.proofs.SetTrees as tree_of
use Rattle.tree_entries.proofs.AcceptedTrees as trees
use Rattle.tree_entries.proofs.building.storeless_root.Goals as goal
use Rattle.tree_entries.proofs.building.storeless_root.Goals.{In_ok-check_storeless}

pub returns-in_err-check_storeless : goal.returns-in_err-check_storeless
unfolding storeless_reply storeless_rooted
returns-in_err-check_storeless c = refusal_returned _ _ _ (storeless_refusals _ _ _) [] _ _ c.from_residual.ensures.1 c.in_err-check_storeless.ensures

passed : (c : In_ok-check_storeless) → trees.StorelessRooted c.args.set c.args.leaves.now c.args.node.now
passed c = trees.storeless_passed _ _ _ (sym c.in_ok-check_storeless.ensures)

pub dimensions-d-requires : goal.dimensions-d-requires
dimensions-d-requires c = (passed c).set

pub storeless_root-requires : goal.storeless_root-requires
storeless_root-requires c =
    let A = passed (goal.at.storeless_root-requires c).In_ok-check_storeless in
    rw c.dimensions-d.ensures (tree_of.valid_set _ A.set, A.leaves_long, A.node_long)

pub shape_of-node : goal.shape_of-node
shape_of-node c =
    let A = passed (goal.at.shape_of-node c).In_ok-check_storeless in
    rw (c.storeless_root.ensures, c.dimensions-d.ensures) (tree_of.storeless_long _ A.set _ A.leaves_long ∙ sym A.node_long)

pub returns : goal.returns
unfolding storeless_reply storeless_rooted
returns c =
    rw (c.storeless_root.ensures, c.dimensions-d.ensures)
    (done_equations (storeless_refusals _ _ _) [] _ _ (trees.storeless_numbered _ _ _) (sym c.in_ok-check_storeless.ensures))
