use Rattle.reader_entries.proofs.reading.OpeningReader.part_at.Goals as goal

pub returns : goal.returns
returns c = c.part_of.ensures
