use Rattle.std.proofs.Common.{◌≡◌, ◌-◌, suc, arith}
use Rattle.trees.proofs.Shapes.{arity_small, node_small}
use Rattle.storeless.proofs.Recursion.{at_leaf, at_leaves, at_row, at_fewer, at_last, place_small, row_fits, in_row, node_leaf, node_row, row_leaves, refusal_none, row_more}
use Rattle.storeless.proofs.+node_row.Goals as goal

-- a node: a leaf
pub node-node_at-requires : goal.node-node_at-requires
node-node_at-requires t c = (at_leaf c.requires c.if-level-eq0.true, node_small c.requires.set.numbers)

pub node-returns-then-level-eq0 : goal.node-returns-then-level-eq0
node-returns-then-level-eq0 t c =
    let a = c.args in
    node_leaf a.d a.diagonal.now a.constants.now a.leaves.now a.i c.node_at.result c.if-level-eq0.true c.node_at.ensures

-- or the compression of its row
pub node-overflow_mul-arity : goal.node-overflow_mul-arity
node-overflow_mul-arity t c =
    let a = c.args in
    let e : a.level ≡ suc (a.level - 1) = omega arith in
    omega (arith, place_small (at_row (a.level - 1) e c.requires))

pub node-row-x-requires : goal.node-row-x-requires
node-row-x-requires t c =
    let a = c.args in
    let e : a.level ≡ suc (a.level - 1) = omega arith in
    (omega (arith, c.decreases, arity_small c.requires.set.numbers), at_row (a.level - 1) e c.requires)

pub node-returns : goal.node-returns
node-returns t c =
    let a = c.args in
    let e : a.level ≡ suc (a.level - 1) = omega arith in
    node_row a.d a.diagonal.now a.constants.now a.leaves.now a.i (a.level - 1) c.row-x.result c.compress_row.result e c.row-x.ensures c.compress_row.ensures

-- a row: of leaves
pub row-leaf_row-requires : goal.row-leaf_row-requires
row-leaf_row-requires t c = (at_leaves c.requires c.if-level-eq0.true, row_fits c.requires)

pub row-returns-then-level-eq0 : goal.row-returns-then-level-eq0
row-returns-then-level-eq0 t c =
    let a = c.args in
    row_leaves a.d a.diagonal.now a.constants.now a.leaves.now a.first a.n c.leaf_row.result c.if-level-eq0.true c.leaf_row.ensures

-- of no node
pub row-returns-then-n-eq0 : goal.row-returns-then-n-eq0
row-returns-then-n-eq0 t c =
    let a = c.args in
    refusal_none a.d a.diagonal.now a.constants.now a.leaves.now a.level a.first _ c.if-n-eq0.true

-- or its nodes but the last, and the last
pub row-row-before-requires : goal.row-row-before-requires
row-row-before-requires t c =
    let a = c.args in
    let e : a.n ≡ suc (a.n - 1) = omega arith in
    (omega (arith, c.decreases), at_fewer (a.n - 1) e c.requires)

pub row-overflow_add-first : goal.row-overflow_add-first
row-overflow_add-first t c = omega (arith, place_small c.requires)

pub row-node-x-requires : goal.row-node-x-requires
row-node-x-requires t c =
    let a = c.args in
    let e : a.n ≡ suc (a.n - 1) = omega arith in
    (omega (arith, c.decreases), at_last (a.n - 1) e c.requires)

pub row-put_node-requires : goal.row-put_node-requires
row-put_node-requires t c =
    let a = c.args in
    let e : a.n ≡ suc (a.n - 1) = omega arith in
    (in_row (a.n - 1) e c.requires, node_small c.requires.set.numbers)

pub row-returns : goal.row-returns
row-returns t c =
    let a = c.args in
    let e : a.n ≡ suc (a.n - 1) = omega arith in
    row_more a.d a.diagonal.now a.constants.now a.leaves.now a.level a.first (a.n - 1) c.row-before.result c.node-x.result c.put_node.result e c.row-before.ensures c.node-x.ensures c.put_node.ensures
