use Rattle.state_entries.proofs.sets.check.Goals as goal

pub returns : goal.returns
returns c = c.check_set.ensures
