use Rattle.std.proofs.Common.{lit<}
use Rattle.modular.specs.Goldilocks.{p}
use Rattle.blocks.proofs.External.{external_all}
use Rattle.layers.proofs.external.external.Goals as goal

pub returns : goal.returns
returns g c =
    external_all p (lit< tt) c.requires.0 c.requires.1 c.args.s c.join_blocks.result
    c.highs.ensures.0 c.sums.ensures.0 c.m4_blocks-h.ensures.0 c.lows.ensures.0 c.sums-2.ensures.0 c.m4_blocks-l.ensures.0 c.join_blocks.ensures
