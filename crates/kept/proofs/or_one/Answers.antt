use mathlib.Core.Path.{sym}
use Rattle.kept.proofs.Multiplying.{as_itself, as_one}
use Rattle.kept.proofs.or_one.Goals as goal

pub returns-then-d-eq0 : goal.returns-then-d-eq0
returns-then-d-eq0 c = sym (as_one c.args.d c.if-d-eq0.true)

pub returns-else-d-eq0 : goal.returns-else-d-eq0
returns-else-d-eq0 c = sym (as_itself c.args.d c.if-d-eq0.false)
