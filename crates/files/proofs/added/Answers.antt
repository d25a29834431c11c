-- The check finds this by itself. It stands here so that an edit of the sum is refused for the terms that differ.
use Rattle.files.proofs.added.Goals as goal

pub returns : goal.returns
returns c = c.sum.ensures
