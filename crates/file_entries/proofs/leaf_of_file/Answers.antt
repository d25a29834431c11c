use mathlib.Core.Path.{sym}
use mathlib.Core.List.{[]}
use Rattle.refusals.proofs.Table.{done_equations, left_as}
use Rattle.refusals.proofs.Answers.{refusal_returned}
use Rattle.state_entries.specs.Permutation.{permute_under}
use Rattle.file_entries.specs.Files.{file_refusals, file_reply, file_leaf_under, leaf_written}
use Rattle.file_entries.proofs.AcceptedFiles.{AcceptedFile, accepted_file, file_numbered}
use Rattle.file_entries.proofs.leaf_of_file.Goals as goal
use Rattle.file_entries.proofs.leaf_of_file.Goals.{In_ok-check_file}

pub returns-in_err-check_file : goal.returns-in_err-check_file
unfolding file_reply leaf_written
returns-in_err-check_file c = refusal_returned _ _ _ _ _ _ _ c.from_residual.ensures.1 c.in_err-check_file.ensures

passed : (c : In_ok-check_file) → AcceptedFile c.args.set c.args.contents.now c.args.leaf.now
passed c = accepted_file _ _ _ (sym c.in_ok-check_file.ensures)

pub leaf_of-requires : goal.leaf_of-requires
leaf_of-requires c =
    let A = passed (goal.at.leaf_of-requires c).In_ok-check_file in
    (A.set.width, A.set.node_below, A.set.half_some, A.set.half_few, A.set.partial_few, A.set.constants, A.short, A.leaf_long)

pub returns : goal.returns
unfolding file_reply leaf_written file_leaf_under permute_under
returns c =
    left_as
    (done_equations (file_refusals _ _ _) [] _ _ (file_numbered _ _ _)
    (sym c.in_ok-check_file.ensures))
    c.leaf_of.ensures
