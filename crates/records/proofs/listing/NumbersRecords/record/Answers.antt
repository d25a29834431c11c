use mathlib.Core.Path.{sym, ◌∙◌}
use native.Mathlib.Omega.{arith}
use Rattle.records.proofs.Listed.{listed_count, listed_at}
use Rattle.records.proofs.listing.NumbersRecords.record.Goals as goal

pub returns : goal.returns
returns c =
    let ns = c.args.self.0.now in
    listed_at ns c.args.i c.record_at.result (omega (arith, c.requires, listed_count ns)) ∙ sym c.record_at.ensures
