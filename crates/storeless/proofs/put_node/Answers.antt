use mathlib.Core.Path.{ap, ◌∙◌}
use Prim.Native.Nat.{◌+◌}
use native.Mathlib.Omega.{arith}
use lib.ListN.{take}
use Rattle.merkle.specs.Lists.{part}
use Rattle.merkle.proofs.Lists.{length_part}
use Rattle.trees.proofs.Lists.{take-put_next}
use Rattle.storeless.proofs.put_node.Goals as goal

pub returns : goal.returns
returns c =
    let a = c.args in
    let l = a.node_size in
    ap (take (a.at + l)) c.copy_words.ensures ∙ take-put_next a.row a.at (part 0 l a.node) l (length_part 0 l a.node (omega arith)) (omega arith)
