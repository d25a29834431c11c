use mathlib.Core.Path.{◌∙◌}
use native.Mathlib.Omega.{arith}
use Rattle.trees.specs.Shapes.{tree}
use Rattle.trees.proofs.Shapes.{regular, room}
use Rattle.trees.proofs.Siblings.{siblings_copied}
use Rattle.trees.proofs.openings.copy_siblings.Goals as goal

pub copy_two-requires : goal.copy_two-requires
copy_two-requires c =
    let r = room c.requires.0 c.args.c c.requires.2 in
    omega arith

pub returns : goal.returns
returns c =
    let a = c.args in
    λ D C. c.copy_two.ensures
    ∙ siblings_copied (tree a.d D C) (regular c.requires.0 D C) a.n a.c a.store.now c.requires.2 c.requires.1 a.target.now a.to c.requires.3
