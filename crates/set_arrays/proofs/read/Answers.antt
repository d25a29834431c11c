use Rattle.set_arrays.proofs.Statements.{of_parts}
use Rattle.set_arrays.proofs.read.Goals as goal

pub returns : goal.returns
returns c = of_parts _ c.numbers_at.ensures c.numbers_at-2.ensures c.numbers_at-3.ensures
