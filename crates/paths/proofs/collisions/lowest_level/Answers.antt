use mathlib.Core.Path.{◌≡◌}
use native.Mathlib.Omega.{arith}
use Rattle.paths.proofs.Verdict.{walked_none}
use Rattle.paths.proofs.Search.{climbed_none, found_none, found, climbed_more}
use Rattle.paths.proofs.collisions.lowest_level.Goals as goal

pub loop-j-init : goal.loop-j-init
loop-j-init c =
    let a = c.args in
    let v = c.requires.0.numbers in
    climbed_none v a.diagonal.now a.constants.now a.place a.first.now a.first_siblings.now a.second.now a.second_siblings.now c.node_at-own.result c.node_at-other.result
    (walked_none v a.diagonal.now a.constants.now a.place a.first.now a.first_siblings.now c.node_at-own.result c.requires.1 (omega arith) c.node_at-own.ensures)
    (walked_none v a.diagonal.now a.constants.now a.place a.second.now a.second_siblings.now c.node_at-other.result c.requires.3 (omega arith) c.node_at-other.ensures)

pub returns-then-collide : goal.returns-then-collide
returns-then-collide c =
    let a = c.args in
    found c.requires.0.numbers a.diagonal.now a.constants.now a.place a.first.now a.first_siblings.now a.second.now a.second_siblings.now c.loop-j.invariant
    c.path_row-row.result c.path_row-other_row.result c.compress_row-next.result c.compress_row-other_next.result
    (c.path_row-row.ensures a.diagonal.now a.constants.now) (c.path_row-other_row.ensures a.diagonal.now a.constants.now) c.compress_row-next.ensures c.compress_row-other_next.ensures
    c.collide.result c.collide.ensures
    c.loop-j-test.true c.if-collide.true

pub loop-j-preserved : goal.loop-j-preserved
loop-j-preserved c =
    let a = c.args in
    climbed_more c.requires.0.numbers a.diagonal.now a.constants.now a.place a.first.now a.first_siblings.now a.second.now a.second_siblings.now c.loop-j.invariant
    c.path_row-row.result c.path_row-other_row.result c.compress_row-next.result c.compress_row-other_next.result
    (c.path_row-row.ensures a.diagonal.now a.constants.now) (c.path_row-other_row.ensures a.diagonal.now a.constants.now) c.compress_row-next.ensures c.compress_row-other_next.ensures
    c.collide.result c.collide.ensures
    (omega (arith, c.compress_row-next.type_inv)) (omega (arith, c.compress_row-other_next.type_inv)) c.if-collide.false

pub returns : goal.returns
returns c =
    let a = c.args in
    let e : c.loop-j.j ≡ a.d.height = omega arith in
    found_none c.requires.0.numbers a.diagonal.now a.constants.now a.place a.first.now a.first_siblings.now a.second.now a.second_siblings.now c.loop-j.invariant e
