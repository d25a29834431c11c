use mathlib.Core.Path.{sym, ◌∙◌}
use Rattle.trees.specs.Shapes.{tree, counted}
use Rattle.trees.proofs.Shapes.{regular}
use Rattle.trees.proofs.Rows.{written, count_more}
use Rattle.trees.proofs.nodes.rewrite_node.Goals as goal

pub returns : goal.returns
returns c =
    let a = c.args in
    let S = tree a.d a.diagonal.now a.constants.now in (
      c.compress_at.ensures ∙ written S (regular c.requires.0.numbers a.diagonal.now a.constants.now) a.store.now a.n c.requires.1 a.leaves a.count,
      sym (count_more S (regular c.requires.0.numbers a.diagonal.now a.constants.now) a.leaves a.n (counted a.store.now a.count)),
    )
