use Rattle.std.proofs.Common.{◌+◌, [], ◌∷◌, arith}
use Rattle.blocks.proofs.Lists.{first_word, raised_four}
use Rattle.layers.proofs.full.raise_block.Goals as goal

pub raise_word-requires : goal.raise_word-requires
raise_word-requires c =
    first_word (c.args.at + 4) c.args.constants.now c.args.at c.requires.1 (omega arith)

pub raise_word-requires-2 : goal.raise_word-requires-2
raise_word-requires-2 c =
    first_word (c.args.at + 4) c.args.constants.now (c.args.at + 1) c.requires.1 (omega arith)

pub raise_word-requires-3 : goal.raise_word-requires-3
raise_word-requires-3 c =
    first_word (c.args.at + 4) c.args.constants.now (c.args.at + 2) c.requires.1 (omega arith)

pub raise_word-requires-4 : goal.raise_word-requires-4
raise_word-requires-4 c =
    first_word (c.args.at + 4) c.args.constants.now (c.args.at + 3) c.requires.1 (omega arith)

pub returns : goal.returns
returns c =
    let a = c.args in
    raised_four a.x (c.raise_word.result ∷ c.raise_word-2.result ∷ c.raise_word-3.result ∷ c.raise_word-4.result ∷ []) a.constants.now a.at
    c.raise_word.ensures c.raise_word-2.ensures c.raise_word-3.ensures c.raise_word-4.ensures
