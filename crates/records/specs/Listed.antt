-- Records read from a list of numbers, seven for each: a place, then six words (Rules 5.6).
use Rattle.std.specs.Prelude.{Bool, List, [], ◌∷◌, ◌++◌, ℕ, zero, suc, ◌+◌, ◌*◌, ◌/◌, ◌%◌, eqb, length, get_or, drop}
use Rattle.records.specs.declared.record.Record.{Record}

-- the first six numbers of a list, 0 where there is none
abbrev pub record_of : ℕ → List ℕ → Record
record_of q ws = record { place = q; words = get_or ws 0 0 ∷ get_or ws 1 0 ∷ get_or ws 2 0 ∷ get_or ws 3 0 ∷ get_or ws 4 0 ∷ get_or ws 5 0 ∷ [] }

unfoldable pub record_at : List ℕ → ℕ → Record
record_at ns i = record_of (get_or ns (i * 7) 0) (drop (i * 7 + 1) ns)

unfoldable pub records_of : List ℕ → ℕ → List Record
records_of ns zero = []
records_of ns (suc i) = records_of ns i ++ (record_at ns i ∷ [])

-- all that are there
unfoldable pub listed : List ℕ → List Record
listed ns = records_of ns (length ns / 7)

-- The list is of whole records: any other is refused with 10 (Rules 5.6).
unfoldable pub whole_records : List ℕ → Bool
whole_records ns = eqb (length ns % 7) 0

-- the numbers of records: of each its place, then its words
unfoldable pub flat : List Record → List ℕ
flat [] = []
flat (r ∷ rs) = r.place ∷ (r.words ++ flat rs)
