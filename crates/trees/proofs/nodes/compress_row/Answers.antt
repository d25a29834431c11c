use Rattle.std.proofs.Common.{◌*◌, take, arith}
use lib.Seq.{length-take-le}
use Rattle.trees.specs.Shapes.{tree}
use Rattle.trees.proofs.Shapes.{width_small, node_small, regular}
use Rattle.trees.proofs.Rows.{node_of_six}
use Rattle.trees.proofs.nodes.compress_row.Goals as goal

pub returns : goal.returns
returns c =
    let a = c.args in
    let v = c.requires.numbers in
    let t = a.d.arity * a.d.node_size in
    node_of_six a.d.node_size a.row c.compress_at.new.store c.in-Some.node.now ((tree a.d a.diagonal.now a.constants.now).compress (take t a.row))
    (node_small v) c.in-Some.ensures.cases.same ((regular v a.diagonal.now a.constants.now).sized (take t a.row) (length-take-le t a.row (omega (arith, width_small v)))) c.compress_at.ensures
