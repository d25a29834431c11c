use Rattle.std.proofs.Common.{get_or, rules}
use Rattle.blocks.proofs.Halves.{m4_sums}
use Rattle.layers.proofs.external.m4.Goals as goal

pub returns : goal.returns
returns c =
    let x = c.args.x in
    (m4_sums (get_or x 0 0) (get_or x 1 0) (get_or x 2 0) (get_or x 3 0), search rules)
