use native.Mathlib.Omega.{arith}
use Prim.Native.Nat.{◌+◌, ◌/◌}
use Rattle.marks.proofs.Marks.{some_under, row_inner, row_inside, node_there, row_small}
use Rattle.marks.proofs.rewriting.rewrite_over.Goals as goal

pub nonzero_div-n : goal.nonzero_div-n
nonzero_div-n c = some_under c.requires.0.numbers c.requires.3

pub overflow_add-n : goal.overflow_add-n
overflow_add-n c =
    let a = c.args in
    let v = c.requires.0.numbers in
    omega (
      arith,
      row_small v a.diagonal.now a.constants.now a.store.now c.requires.1 (a.before + a.place / a.under)
          (row_inner v c.requires.3 a.diagonal.now a.constants.now a.place c.requires.4),
    )

pub rewrite_marked-requires : goal.rewrite_marked-requires
rewrite_marked-requires c =
    let a = c.args in
    let v = c.requires.0.numbers in
    let n = a.before + a.place / a.under in
    let b = row_inner v c.requires.3 a.diagonal.now a.constants.now a.place c.requires.4 in (
      c.requires.0,
      row_inside v a.diagonal.now a.constants.now a.store.now c.requires.1 n b,
      node_there v a.diagonal.now a.constants.now a.store.now c.requires.1 n b a.leaves c.requires.2,
      c.requires.5,
    )
