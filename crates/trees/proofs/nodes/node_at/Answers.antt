use mathlib.Core.Path.{ap, ◌∙◌}
use Prim.Native.Nat.{◌*◌}
use lib.ListN.{take, replicate}
use Rattle.merkle.specs.Lists.{part}
use Rattle.merkle.proofs.Lists.{length_part}
use Rattle.trees.proofs.Lists.{head_put}
use Rattle.trees.proofs.nodes.node_at.Goals as goal

pub returns : goal.returns
returns c =
    let a = c.args in
    let l = a.node_size in
    ap (take l) c.copy_words.ensures ∙ head_put (replicate 6 0) (part (a.i * l) l a.nodes.now) l (length_part (a.i * l) l a.nodes.now c.requires.0) c.requires.1
