use mathlib.Core.Path.{refl}
use mathlib.Core.List.{[]}
use Prim.Native.Nat.{◌+◌}
use native.Mathlib.Omega.{arith}
use lib.ListN.{length}
use Rattle.merkle.specs.Marks.{mark_node}
use Rattle.trees.specs.Shapes.{tree}
use Rattle.trees.proofs.Rows.{number_small}
use Rattle.trees.proofs.Shapes.{regular}
use Rattle.marks.proofs.marking.mark_node.Goals as goal

pub overflow_add-at : goal.overflow_add-at
overflow_add-at c =
    let a = c.args in
    omega (arith, number_small (tree a.d [] []) (regular c.requires.0 [] []) (a.leaves + a.n) (length a.store.now) c.requires.1)

pub returns : goal.returns
unfolding mark_node
returns c D C = refl
