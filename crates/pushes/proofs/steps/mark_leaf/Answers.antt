use mathlib.Core.Path.{sym, ◌∙◌}
use native.Mathlib.Omega.{arith}
use lib.Seq.{length-take-le}
use borrow.Author.Tests.{lt-ltb}
use Rattle.trees.proofs.SetTrees as tree_of
use Rattle.trees.specs.SetTrees.{dimensions_of}
use Rattle.pushes.specs.Passes.{mark_leaf}
use Rattle.records.proofs.Changes.{leaf_in_record}
use Rattle.pushes.proofs.steps.mark_leaf.Goals as goal

pub slice_bounds-write_leaf-end : goal.slice_bounds-write_leaf-end
slice_bounds-write_leaf-end c =
    sym (length-take-le _ _ (rw c.dimensions-d.ensures (omega (arith, leaf_in_record _ c.requires.0, c.requires.3))))

pub write_leaf-requires : goal.write_leaf-requires
write_leaf-requires c =
    rw c.dimensions-d.ensures (
      tree_of.valid_numbers _ c.requires.0,
      λ D C. c.requires.1 ∙ tree_of.same_size (dimensions_of c.args.set) c.args.set.diagonal c.args.set.constants D C,
      c.requires.2,
      rw (sym c.requires.2) c.if-places-place.false,
      length-take-le _ _ (omega (arith, leaf_in_record _ c.requires.0, c.requires.3)),
    )

pub returns : goal.returns
unfolding mark_leaf
returns c =
    rw (lt-ltb _ _ c.if-places-place.false) (rw c.dimensions-d.ensures at (c.write_leaf.ensures c.args.set.diagonal c.args.set.constants))
