use Rattle.std.proofs.Common.{arith}
use Rattle.field.proofs.Fractions.{quartered}
use Rattle.field.proofs.parts.quarter.Goals as goal

pub overflow_add-result-2 : goal.overflow_add-result-2
overflow_add-result-2 c = omega (arith, (quartered c.args.x c.requires).0)

pub returns : goal.returns
returns c = quartered c.args.x c.requires
