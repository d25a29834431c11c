use Rattle.std.proofs.Common.{arith}
use Rattle.field.proofs.lazy.residue.Goals as goal

pub returns-then-x-ge-P : goal.returns-then-x-ge-P
returns-then-x-ge-P c = omega arith

pub returns-else-x-ge-P : goal.returns-else-x-ge-P
returns-else-x-ge-P c = omega arith
