use mathlib.Core.Path.{ap, ◌∙◌}
use mathlib.Core.List.{List}
use Prim.Native.Nat.{ℕ, ◌*◌, ◌/◌}
use native.Mathlib.Omega.{arith}
use Rattle.trees.proofs.Shapes.{width_small}
use Rattle.paths.proofs.Rows.{power_fits, power_some, row_made, row_copied}
use Rattle.paths.proofs.collisions.copy_row.Goals as goal

pub leaf_count-requires : goal.leaf_count-requires
leaf_count-requires c =
    power_fits c.requires.0.numbers c.args.level (omega (arith, c.requires.2))

pub nonzero_div-number : goal.nonzero_div-number
nonzero_div-number c =
    omega (arith, c.leaf_count.ensures, power_some c.requires.0.numbers c.args.level)

pub returns : goal.returns
returns c =
    let a = c.args in
    let w = a.d.arity * a.d.node_size in
    let made : List ℕ = c.path_row-made.result in
    c.copy_words.ensures
    ∙ row_copied a.row.now made w c.requires.4 (omega (arith, width_small c.requires.0.numbers))
    ∙ row_made a.d a.diagonal.now a.constants.now a.place a.leaf.now a.siblings.now a.level c.path_node-own.result (a.place / c.leaf_count.result) made
    c.path_node-own.ensures (ap (λ (n : ℕ). a.place / n) c.leaf_count.ensures) (c.path_row-made.ensures a.diagonal.now a.constants.now)
