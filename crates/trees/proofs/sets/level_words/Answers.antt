use Rattle.std.proofs.Common.{ap, ◌*◌, ℕ, ◌∙◌, arith}
use Rattle.merkle.specs.Lists.{part}
use Rattle.merkle.specs.Openings.{siblings_at, sibling_size}
use Rattle.trees.specs.SetTrees.{tree_of_set}
use Rattle.trees.proofs.Counts.{within}
use Rattle.trees.proofs.sets.level_words.Goals as goal

pub cut-requires : goal.cut-requires
cut-requires c =
    let z = c.requires in
    rw c.part_words.ensures (omega (arith, z.1, within (sibling_size (tree_of_set c.args.set)) z.2))

pub returns : goal.returns
unfolding siblings_at
returns c =
    let a = c.args in
    c.«cut».ensures ∙ ap (λ (n : ℕ). part (a.level * n) n a.siblings.now) c.part_words.ensures
