use mathlib.Core.Path.{ap, ◌∙◌}
use lib.ListN.{take, replicate}
use Rattle.merkle.specs.Lists.{part}
use Rattle.merkle.proofs.Lists.{length_part}
use Rattle.trees.proofs.Lists.{head_put}
use Rattle.storeless.proofs.leaf_row.Goals as goal

pub returns : goal.returns
returns c =
    let a = c.args in
    let n = a.count in
    ap (take n) c.copy_words.ensures ∙ head_put (replicate 12 0) (part a.from n a.leaves.now) n (length_part a.from n a.leaves.now c.requires.0) c.requires.1
