use native.Mathlib.Omega.{arith}
use Rattle.paths.proofs.Verdict.{walked_none, walked_more}
use Rattle.paths.proofs.path_node.Goals as goal

pub loop-j-init : goal.loop-j-init
loop-j-init c =
    let a = c.args in
    walked_none c.requires.0.numbers a.diagonal.now a.constants.now a.place a.leaf.now a.siblings.now c.node_at-own.result c.requires.1 (omega arith) c.node_at-own.ensures

pub loop-j-preserved : goal.loop-j-preserved
loop-j-preserved c =
    let a = c.args in
    walked_more c.requires.0.numbers a.diagonal.now a.constants.now a.place a.leaf.now a.siblings.now c.path_row-row.result c.compress_row-own.result c.loop-j.invariant (omega arith)
    (c.path_row-row.ensures a.diagonal.now a.constants.now) c.compress_row-own.ensures
