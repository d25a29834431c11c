use mathlib.Core.Path.{sym}
use Rattle.modular.proofs.Fours.{four_at_lem}
use Rattle.permutation.proofs.rounds.load_block.Goals as goal

pub returns : goal.returns
returns c =
    sym (four_at_lem c.args.list.now c.args.at c.requires)
