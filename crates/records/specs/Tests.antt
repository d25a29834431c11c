-- The tests of a push, as its code makes them: each record is tested, and where the tests leave it open, a place that stands twice is
-- searched.
-- Nothing here has to be believed: that a push made of them is what its definition says is proved in push_entries.
use Rattle.std.specs.Prelude.{◌≡◌, Bool, true, false, cond, not, ◌&&◌, ◌||◌, List, ℕ, ◌+◌, ◌*◌, ◌/◌, ◌%◌, ◌^◌, ◌≤◌, ◌<◌, eqb, ltb, leb, length, take, set}
use Rattle.modular.specs.Arithmetic.{all_words}
use Rattle.refusals.specs.Table.{first_refusal}
use Rattle.parameters.specs.declared.ParameterSet.{ParameterSet}
use Rattle.parameters.specs.ParameterSet.{prime_of, set_refusals}
use Rattle.repeats.specs.Repeats.{member}
use Rattle.repeats.specs.Maps.{Noting, window, map_words, note}
use Rattle.trees.specs.SetTrees.{dimensions_of, leaf_count, store_words}
use Rattle.marks.specs.Marks.{Rank}
use Rattle.records.specs.declared.record.Record.{Record}
use Rattle.records.specs.declared.tally.Tally.{Tally}
use Rattle.records.specs.Records.{leaf_of}

-- the tally and the buffer in the course of a pass
pub record Pass : Type 0 where
  pub tally : Tally
  pub buffer : List ℕ

abbrev pub pass : Tally → List ℕ → Pass
pass t buffer = record { tally = t; buffer = buffer }

-- before the first record: nothing is refused or found, and there are no places yet
abbrev pub empty_tally : Tally
empty_tally = record {
  number = 0;
  places = 0;
  placed = true;
  words = true;
  distinct = true;
  rising = true;
  above = 0;
  few = false;
  kept = 0;
  levels = 0;
  before = 0;
  under = 0;
  made = 0;
}

-- a tally at the numbers of a level, and with this count
abbrev pub ranked : Tally → ℕ → ℕ → ℕ → Tally
ranked t before under n = record {
  number = t.number;
  places = t.places;
  placed = t.placed;
  words = t.words;
  distinct = t.distinct;
  rising = t.rising;
  above = t.above;
  few = t.few;
  kept = t.kept;
  levels = t.levels;
  before = before;
  under = under;
  made = n;
}

-- ---- the tests

-- so many places are kept at most
abbrev pub keepable : ℕ
keepable = 128

-- one more than a place below n
unfoldable pub above_of : ℕ → ℕ → ℕ
above_of n q = cond (ltb q n) (q + 1) q

-- the k places that are kept, and one more: whether it rises or is none of them
unfoldable pub fresh_of : Bool → ℕ → Bool → ℕ → List ℕ → Bool
fresh_of few k rises q seen = not few || (rises || not (member q (take k seen)))

unfoldable pub keeping : Bool → ℕ → ℕ → List ℕ → List ℕ
keeping few k q seen = cond few (set seen k q) seen

unfoldable pub one_more : Bool → ℕ → ℕ
one_more few k = cond few (k + 1) k

abbrev pub rises : Tally → ℕ → Bool
rises t q = t.rising && leb t.above q

abbrev pub tested : ParameterSet → Record → Tally → List ℕ → Pass
tested s r t seen =
    pass
    (record {
      number = 0;
      places = t.places;
      placed = t.placed && ltb r.place t.places;
      words = t.words && all_words (prime_of s) (leaf_of s.node_size r);
      distinct = t.distinct && fresh_of t.few t.kept (rises t r.place) r.place seen;
      rising = rises t r.place;
      above = above_of t.places r.place;
      few = t.few;
      kept = one_more t.few t.kept;
      levels = t.levels;
      before = t.before;
      under = t.under;
      made = t.made;
    })
    (keeping t.few t.kept r.place seen)

-- a record tested, where no refusal before 11 applies
unfoldable pub test_of : ParameterSet → Record → Pass → Pass
test_of s r u = cond (eqb u.tally.number 0) (tested s r u.tally u.buffer) u

-- no refusal up to 12 applies
unfoldable pub is_clear : Tally → Bool
is_clear t = eqb t.number 0 && (t.placed && t.words)

-- ---- the search

abbrev pub finding : Tally → Bool → Tally
finding t distinct = record {
  number = t.number;
  places = t.places;
  placed = t.placed;
  words = t.words;
  distinct = distinct;
  rising = t.rising;
  above = t.above;
  few = t.few;
  kept = t.kept;
  levels = t.levels;
  before = t.before;
  under = t.under;
  made = t.made;
}

abbrev pub found : Tally → Noting → Pass
found t n = pass (finding t (not n.again)) n.map

-- a place noted in a map, until one is found twice
unfoldable pub note_of : ℕ → ℕ → Pass → Pass
note_of base q u = cond (eqb u.tally.number 0 && u.tally.distinct) (found u.tally (note base q u.buffer)) u

-- A search is wanted where nothing is refused so far, the places do not rise and were too many to be compared.
unfoldable pub wanted : Tally → Bool
wanted t = is_clear t && (not t.rising && not t.few)

-- how many windows n places take
abbrev pub windows_for : ℕ → ℕ
windows_for n = n / window + (n % window + 1048575) / window

unfoldable pub search_end : Tally → ℕ
search_end t = cond (wanted t) (3 + windows_for t.places) 3

-- ---- what is presumed

-- how long a phase's buffer is
unfoldable pub room_of : ParameterSet → ℕ → ℕ
room_of s phase = cond (eqb phase 0) keepable (cond (ltb phase 3) (store_words s) map_words)

-- What a pass over n records presumes: the set is accepted and the buffer has its length, unless the tally has a refusal; there is room for
-- the places that are kept and for the count; the numbers of a level are those of one; and a window's first place is a number of 64 bits.
pub record Going (s : ParameterSet) (phase : ℕ) (buffer : List ℕ) (t : Tally) (n : ℕ) : Type 0 where
  pub accepted : t.number ≡ 0 → first_refusal (set_refusals s) ≡ 0
  pub whole : t.number ≡ 0 → length buffer ≡ room_of s phase
  pub places : t.number ≡ 0 → t.places ≡ leaf_count s
  pub keeps : phase ≡ 0 → t.few ≡ true → t.kept + n ≤ keepable
  pub counts : t.made + 32 * n < 2 ^ 64
  pub rank : phase ≡ 2 → t.number ≡ 0 → Rank (dimensions_of s) t.before t.under
  pub low : phase < 2 ^ 32
