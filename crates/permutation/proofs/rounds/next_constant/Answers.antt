use mathlib.Core.Path.{sym}
use Prim.Native.Nat.{◌+◌}
use native.Mathlib.Omega.{arith}
use lib.Dec.{lit<}
use Rattle.modular.specs.Goldilocks.{p}
use Rattle.blocks.proofs.Lists.{first_word}
use Rattle.blocks.proofs.Turns.{constant_at, constant_out}
use Rattle.permutation.proofs.rounds.next_constant.Goals as goal

pub returns-then-i-n : goal.returns-then-i-n
returns-then-i-n c =
    let a = c.args in
    (sym (constant_at p a.constants.now a.at a.n a.i c.if-i-n.true), first_word (a.at + a.n) a.constants.now (a.at + a.i) c.requires.2 (omega arith))

pub returns-else-i-n : goal.returns-else-i-n
returns-else-i-n c =
    let a = c.args in
    (sym (constant_out p a.constants.now a.at a.n a.i c.if-i-n.false), lit< tt)
