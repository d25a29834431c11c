use mathlib.Core.Path.{sym, ap, ◌∙◌}
use mathlib.Core.List.{[]}
use Rattle.refusals.proofs.Table.{done_equations}
use Rattle.refusals.proofs.Answers.{refusal_returned}
use lib.ListN.{length}
use Rattle.tree_entries.specs.Trees.{root_refusals, root_reply, rooted}
use Rattle.trees.proofs.SetTrees as tree_of
use Rattle.tree_entries.proofs.AcceptedTrees as trees
use Rattle.tree_entries.proofs.building.root.Goals as goal
use Rattle.tree_entries.proofs.building.root.Goals.{In_ok-check_root}

pub returns-in_err-check_root : goal.returns-in_err-check_root
unfolding root_reply rooted
returns-in_err-check_root c = refusal_returned _ _ _ (root_refusals _ _ _) [] _ _ c.from_residual.ensures.1 c.in_err-check_root.ensures

passed : (c : In_ok-check_root) → trees.Rooted c.args.set c.args.store.now c.args.node.now
passed c = trees.root_passed _ _ _ (sym c.in_ok-check_root.ensures)

pub dimensions-d-requires : goal.dimensions-d-requires
dimensions-d-requires c = (passed c).set

pub copy_root-requires : goal.copy_root-requires
copy_root-requires c =
    let A = passed (goal.at.copy_root-requires c).In_ok-check_root in
    rw c.dimensions-d.ensures (rw A.store_long (tree_of.node_in_store _ A.set), A.node_long)

pub shape_of-node : goal.shape_of-node
shape_of-node c =
    let A = passed (goal.at.shape_of-node c).In_ok-check_root in
    let s = c.args.set in
    ap length (rw c.dimensions-d.ensures at (c.copy_root.ensures s.diagonal s.constants)) ∙ tree_of.root_long _ A.set _ A.store_long ∙ sym A.node_long

pub returns : goal.returns
unfolding root_reply rooted
returns c =
    let s = c.args.set in
    let e = done_equations (root_refusals _ _ _) [] _ _ (trees.root_numbered _ _ _) (sym c.in_ok-check_root.ensures) in
    (e.0, (rw c.dimensions-d.ensures at (c.copy_root.ensures s.diagonal s.constants)) ∙ e.1)
