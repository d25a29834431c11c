use Rattle.records.proofs.Listed.{record_at_lem}
use Rattle.records.proofs.listing.record_at.Goals as goal

pub returns : goal.returns
returns c = record_at_lem _ _
