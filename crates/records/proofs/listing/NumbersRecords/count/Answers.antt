use mathlib.Core.Path.{sym}
use Rattle.records.proofs.Listed.{listed_count}
use Rattle.records.proofs.listing.NumbersRecords.count.Goals as goal

pub returns : goal.returns
returns c = sym (listed_count _)
