use Rattle.blocks.proofs.Lists.{raised}
use Rattle.layers.proofs.full.raise_word.Goals as goal

pub returns : goal.returns
returns c =
    raised c.args.x c.args.c c.seventh_power.ensures c.sum.ensures
