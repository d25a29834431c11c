use Rattle.std.proofs.Common.{arith}
use Rattle.blocks.proofs.Sums.{four_added}
use Rattle.layers.proofs.partial.add_block.Goals as goal

pub returns : goal.returns
returns c = (omega (arith, four_added c.args.total c.args.x), omega arith)
