use Rattle.std.proofs.Common.{arith}
use Rattle.field.proofs.Fractions.{halved}
use Rattle.field.proofs.parts.half.Goals as goal

pub overflow_add-result : goal.overflow_add-result
overflow_add-result c = omega (arith, (halved c.args.x c.requires).0)

pub returns : goal.returns
returns c = halved c.args.x c.requires
