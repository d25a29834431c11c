use Rattle.extraction_entries.proofs.Verdicts.{accepted_passes, rejected_refused, never_refused}
use Rattle.extraction_entries.proofs.check_opening.Goals as goal

pub returns-in-Accepted : goal.returns-in-Accepted
returns-in-Accepted c = accepted_passes _ _ _ _ _ c.requires c.in-Accepted.ensures

pub returns-in-Rejected : goal.returns-in-Rejected
returns-in-Rejected c = rejected_refused _ _ _ _ _ c.requires c.in-Rejected.ensures

pub unreachable-requires : goal.unreachable-requires
unreachable-requires c = never_refused _ _ _ _ _ c.requires _ c.in-Refused.ensures
