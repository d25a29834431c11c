use mathlib.Core.List.{[], ◌∷◌}
use Rattle.modular.specs.Goldilocks.{p}
use Rattle.blocks.proofs.Slices.{added_four}
use Rattle.permutation.proofs.add_block.Goals as goal

pub returns : goal.returns
returns c =
    let a = c.args in
    added_four p a.x (c.sum_word.result ∷ c.sum_word-2.result ∷ c.sum_word-3.result ∷ c.sum_word-4.result ∷ []) a.list.now a.at
    c.sum_word.ensures c.sum_word-2.ensures c.sum_word-3.ensures c.sum_word-4.ensures
