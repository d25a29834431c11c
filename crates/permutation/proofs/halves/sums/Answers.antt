use Rattle.permutation.proofs.halves.sums.Goals as goal

pub returns-in-4 : goal.returns-in-4
returns-in-4 c = c.sums_of.ensures
