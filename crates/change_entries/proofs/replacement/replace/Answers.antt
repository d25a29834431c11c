use mathlib.Core.Path.{sym}
use Rattle.refusals.proofs.Table.{done_equations}
use Rattle.refusals.proofs.Answers.{refusal_returned}
use Rattle.trees.proofs.SetTrees as tree_of
use Rattle.change_entries.specs.Replacement.{replace_refusals, replace_reply, replaced}
use Rattle.change_entries.proofs.AcceptedChanges.{Replaced, replace_passed, replace_numbered}
use Rattle.change_entries.proofs.replacement.replace.Goals as goal
use Rattle.change_entries.proofs.replacement.replace.Goals.{In_ok-check_replace}

pub returns-in_err-check_replace : goal.returns-in_err-check_replace
unfolding replace_reply replaced
returns-in_err-check_replace c = refusal_returned _ _ _ (replace_refusals _ _ _ _) _ _ _ c.from_residual.ensures.1 c.in_err-check_replace.ensures

passed : (c : In_ok-check_replace) → Replaced c.args.set c.args.store.now c.args.place c.args.leaf.now
passed c = replace_passed _ _ _ _ (sym c.in_ok-check_replace.ensures)

pub dimensions-d-requires : goal.dimensions-d-requires
dimensions-d-requires c = (passed c).set

pub replace-made-requires : goal.replace-made-requires
replace-made-requires c =
    let A = passed (goal.at.replace-made-requires c).In_ok-check_replace in
    rw c.dimensions-d.ensures (tree_of.valid_set _ A.set, A.store_long, A.place, A.leaf_long)

pub returns : goal.returns
unfolding replace_reply replaced
returns c =
    rw (c.replace-made.ensures.1, c.replace-made.ensures.0, c.dimensions-d.ensures)
    (done_equations (replace_refusals _ _ _ _) _ _ _ (replace_numbered _ _ _ _) (sym c.in_ok-check_replace.ensures))
