use Prim.Native.Nat.{◌+◌}
use native.Mathlib.Omega.{arith}
use Rattle.fields.specs.Prime.{prime}
use Rattle.inversion.proofs.Written.{less_four}
use Rattle.inversion.proofs.full.less.Goals as goal

pub difference-requires : goal.difference-requires
difference-requires c =
    let w = c.requires.2.at 0 in
    let k = c.requires.1.at c.args.at (omega arith) in
    (omega arith, omega arith)

pub difference-requires-2 : goal.difference-requires-2
difference-requires-2 c =
    let w = c.requires.2.at 1 in
    let k = c.requires.1.at (c.args.at + 1) (omega arith) in
    (omega arith, omega arith)

pub difference-requires-3 : goal.difference-requires-3
difference-requires-3 c =
    let w = c.requires.2.at 2 in
    let k = c.requires.1.at (c.args.at + 2) (omega arith) in
    (omega arith, omega arith)

pub difference-requires-4 : goal.difference-requires-4
difference-requires-4 c =
    let w = c.requires.2.at 3 in
    let k = c.requires.1.at (c.args.at + 3) (omega arith) in
    (omega arith, omega arith)

pub returns : goal.returns
returns c =
    let a = c.args in
    less_four prime a.block a.constants.now a.at c.difference.ensures c.difference-2.ensures c.difference-3.ensures c.difference-4.ensures
