use mathlib.Core.Path.{sym, ap, ◌∙◌}
use mathlib.Core.List.{[]}
use lib.ListN.{length}
use Rattle.fields.proofs.Prime.{prime_field}
use Rattle.poseidon2.proofs.Rounds.{claims}
use Rattle.refusals.proofs.Table.{done_equations, left_as}
use Rattle.refusals.proofs.Answers.{refusal_returned}
use Rattle.state_entries.specs.Permutation.{compress_refusals, compress_reply, compress_under, compressed}
use Rattle.state_entries.proofs.AcceptedStates.{AcceptedNode, accepted_compression, compression_numbered}
use Rattle.state_entries.proofs.states.compress.Goals as goal
use Rattle.state_entries.proofs.states.compress.Goals.{In_ok-check_compression}

pub returns-in_err-check_compression : goal.returns-in_err-check_compression
unfolding compress_reply compressed
returns-in_err-check_compression c = refusal_returned _ _ _ _ _ _ _ c.from_residual.ensures.1 c.in_err-check_compression.ensures

passed : (c : In_ok-check_compression) → AcceptedNode c.args.set c.args.state.now c.args.node.now
passed c = accepted_compression _ _ _ (sym c.in_ok-check_compression.ensures)

pub compress-requires : goal.compress-requires
compress-requires c =
    let A = passed (goal.at.compress-requires c).In_ok-check_compression in
    (A.state.width, A.node_fits, A.state.half_some, A.state.half_few, A.state.partial_few, A.state.constants, A.state.long, A.node_long)

pub shape_of-node : goal.shape_of-node
shape_of-node c =
    ap length c.compress.ensures
    ∙ ((claims _ prime_field).sizes.compression _ _ _ _ _ _ _ (passed (goal.at.shape_of-node c).In_ok-check_compression).state.width (passed (goal.at.shape_of-node c).In_ok-check_compression).state.long
    (passed (goal.at.shape_of-node c).In_ok-check_compression).node_fits).width
    ∙ sym (passed (goal.at.shape_of-node c).In_ok-check_compression).node_long

pub returns : goal.returns
unfolding compress_reply compressed compress_under
returns c =
    left_as
    (done_equations (compress_refusals _ _ _) [] _ _ (compression_numbered _ _ _)
    (sym c.in_ok-check_compression.ensures))
    c.compress.ensures
