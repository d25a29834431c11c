-- The loop's invariant: the products of the words passed.
use Rattle.fields.specs.Prime.{prime}
use Rattle.kept.specs.Products.{ProductsOf}
use Rattle.kept.proofs.products_of.Given as goal

abbrev pub invariant-loop-i : goal.invariant-loop-i
invariant-loop-i l = ProductsOf prime l.diagonal l.i (record { before = l.before; all = l.all; scaled = l.scaled })
