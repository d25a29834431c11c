use native.Mathlib.Omega.{arith}
use lib.ListN.{length-set}
use Rattle.blocks.proofs.Slices.{block_written}
use Rattle.permutation.proofs.write_block.Goals as goal

pub bounds-list-at-2 : goal.bounds-list-at-2
bounds-list-at-2 c = simp length-set (omega (arith, c.requires))

pub bounds-list-at-3 : goal.bounds-list-at-3
bounds-list-at-3 c = simp length-set (omega (arith, c.requires))

pub bounds-list-at-4 : goal.bounds-list-at-4
bounds-list-at-4 c = simp length-set (omega (arith, c.requires))

pub returns : goal.returns
returns c = block_written c.args.list.now c.args.x c.args.at c.requires
