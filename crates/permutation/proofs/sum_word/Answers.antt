use Rattle.blocks.proofs.Slices.{sum-of_words}
use Rattle.permutation.proofs.sum_word.Goals as goal

pub returns : goal.returns
returns c =
    sum-of_words c.args.x c.args.y c.residue.ensures c.sum.ensures c.residue-2.ensures
