use mathlib.Core.Path.{sym, ◌∙◌}
use Rattle.set_entries.specs.Exchange.{diagonal_exchanged}
use Rattle.set_entries.proofs.Statements.{refused_by, set-taken}
use Rattle.set_entries.proofs.exchange_diagonal.Goals as goal

pub returns-in_err-check : goal.returns-in_err-check
unfolding diagonal_exchanged
returns-in_err-check c = refused_by _ _ _ _ c.from_residual.ensures.1 c.in_err-check.ensures

pub with_diagonal-requires : goal.with_diagonal-requires
with_diagonal-requires c = sym c.in_ok-check.ensures

pub returns : goal.returns
unfolding diagonal_exchanged
returns c = c.with_diagonal.ensures ∙ set-taken _ _ (sym c.in_ok-check.ensures)
