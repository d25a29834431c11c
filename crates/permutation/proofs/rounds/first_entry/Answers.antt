use Rattle.permutation.proofs.rounds.first_entry.Goals as goal

pub returns : goal.returns
returns c = c.sum.ensures
