use native.Mathlib.Omega.{arith}
use lib.ListN.{replicate}
use Rattle.trees.specs.Shapes.{tree}
use Rattle.trees.proofs.Shapes.{regular, width_small, node_small}
use Rattle.paths.proofs.Verdict.{put_back_copied}
use Rattle.paths.proofs.path_row.Goals as goal

pub returns : goal.returns
returns c =
    let a = c.args in
    λ D C. put_back_copied (tree a.d D C) (regular c.requires.0 D C) a.c c.requires.1 a.own a.siblings.now a.at (omega (arith, node_small c.requires.0)) c.requires.2
    (replicate 12 0) _ _ _ (omega (arith, width_small c.requires.0)) c.copy_words.ensures c.copy_words-2.ensures c.copy_words-3.ensures
