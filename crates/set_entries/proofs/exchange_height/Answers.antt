use mathlib.Core.Path.{sym, ◌∙◌}
use Rattle.set_entries.specs.Exchange.{height_exchanged}
use Rattle.set_entries.proofs.Statements.{refused_by, set-taken}
use Rattle.set_entries.proofs.exchange_height.Goals as goal

pub returns-in_err-check : goal.returns-in_err-check
unfolding height_exchanged
returns-in_err-check c = refused_by _ _ _ _ c.from_residual.ensures.1 c.in_err-check.ensures

pub with_height-requires : goal.with_height-requires
with_height-requires c = sym c.in_ok-check.ensures

pub returns : goal.returns
unfolding height_exchanged
returns c = c.with_height.ensures ∙ set-taken _ _ (sym c.in_ok-check.ensures)
