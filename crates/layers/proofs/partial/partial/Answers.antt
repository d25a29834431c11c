use Rattle.blocks.proofs.Round.{partial_all}
use Rattle.layers.proofs.partial.partial.Goals as goal

pub returns : goal.returns
returns g c =
    partial_all c.args.c c.args.diagonal.now g.row.B c.args.s c.requires.0
    c.seventh_power-w.ensures c.others-r.ensures c.sum-t.ensures c.sum-q.ensures c.requires.3
    c.product_sum.ensures c.product_sum-2.ensures c.product_sum-3.ensures c.product_sum-4.ensures c.multiples.ensures
