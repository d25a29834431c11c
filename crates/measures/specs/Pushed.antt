-- The passes of a push over its records, by themselves: what they begin with, and what they find.
use Rattle.std.specs.Prelude.{◌≡◌, Bool, true, false, cond, ◌&&◌, List, ℕ, ◌*◌, ◌^◌, ◌<◌, eqb, leb, replicate}
use Rattle.refusals.specs.Table.{first_refusal}
use Rattle.parameters.specs.declared.ParameterSet.{ParameterSet}
use Rattle.parameters.specs.ParameterSet.{set_refusals}
use Rattle.trees.specs.SetTrees.{leaf_count}
use Rattle.records.specs.declared.record.Record.{Record}
use Rattle.records.specs.declared.tally.Tally.{Tally}
use Rattle.records.specs.Tests.{pass, keepable}
use Rattle.pushes.specs.Passes.{each_of, search_of}

-- a tally at the beginning: whether the places rise so far, and whether they are few enough to be compared
abbrev pub beginning : ℕ → Bool → Bool → Tally
beginning n rising few = record {
  number = 0;
  places = n;
  placed = true;
  words = true;
  distinct = true;
  rising = rising;
  above = 0;
  few = few;
  kept = 0;
  levels = 0;
  before = 0;
  under = 0;
  made = 0;
}

-- 1 where nothing was found against the records
unfoldable pub found : Tally → ℕ
found t = cond (t.placed && (t.words && t.distinct)) 1 0

-- the first pass over m records, with its part of the test for a place that stands twice (1) or without it
unfoldable pub first_pass : ParameterSet → ℕ → ℕ → ℕ → List Record → ℕ
first_pass s n m repeats rs = found (each_of s 0 rs (pass (beginning n (eqb repeats 1) (eqb repeats 1 && leb m keepable)) (replicate keepable 0))).tally

-- the search, as it is made where the first pass leaves it open
unfoldable pub searching : ParameterSet → ℕ → List Record → ℕ
searching s n rs = found (search_of s rs (beginning n false false))

-- What is presumed: an accepted set, its places, and so few records that their count fits.
pub record Pushable (s : ParameterSet) (n m : ℕ) : Type 0 where
  pub accepted : first_refusal (set_refusals s) ≡ 0
  pub places : n ≡ leaf_count s
  pub count : 32 * m < 2 ^ 64
