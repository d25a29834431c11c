-- Replacement records (Rules 5.3).
use Rattle.std.specs.Prelude.{◌≡◌, Bool, true, ◌&&◌, List, [], ◌∷◌, ◌++◌, ℕ, ltb, length, take}
use Rattle.merkle.specs.Replacement.{Change}
use Rattle.records.specs.declared.record.Record.{Record}

-- the leaf of a record: its first l words
abbrev pub leaf_of : ℕ → Record → List ℕ
leaf_of l r = take l r.words

unfoldable pub changes_of : ℕ → List Record → List Change
changes_of l [] = []
changes_of l (r ∷ rs) = record { place = r.place; leaf = leaf_of l r } ∷ changes_of l rs

-- the places, in order: refusal 17 asks that none stands in this list twice (Rules 8.1)
unfoldable pub places_of : List Record → List ℕ
places_of [] = []
places_of (r ∷ rs) = r.place ∷ places_of rs

-- every record's place is below n: with n = k^h, what refusal 11 asks (Rules 8.1)
unfoldable pub places_below : ℕ → List Record → Bool
places_below n [] = true
places_below n (r ∷ rs) = ltb r.place n && places_below n rs

-- the words of all leaves, those of the records that refusal 12 tests (Rules 8.8)
unfoldable pub used_words : ℕ → List Record → List ℕ
used_words l [] = []
used_words l (r ∷ rs) = leaf_of l r ++ used_words l rs

-- What the type of a record says of its words: there are six, [u64; 6].
abbrev pub SixWords : List Record → Type 0
SixWords [] = Unit {0}
SixWords (r ∷ rs) = (length r.words ≡ 6) × SixWords rs
