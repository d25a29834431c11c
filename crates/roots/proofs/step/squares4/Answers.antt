use Rattle.roots.proofs.Chain.{products_four}
use Rattle.roots.proofs.step.squares4.Goals as goal

pub returns : goal.returns
returns c =
    let x = c.args.x in
    products_four x x c.square.ensures c.square-2.ensures c.square-3.ensures c.square-4.ensures
