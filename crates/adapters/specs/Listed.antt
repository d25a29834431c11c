-- The first records of a list of numbers (Rules 5.6).
use Rattle.std.specs.Prelude.{List, ℕ, ◌/◌, min, length}
use Rattle.records.specs.declared.record.Record.{Record}
use Rattle.records.specs.Listed.{records_of}

-- at most 192
unfoldable pub first_records : List ℕ → List Record
first_records ns = records_of ns (min 192 (length ns / 7))
