-- The passes of a push, as its code makes them: each record is tested; where the tests leave it open, a place that stands twice is searched;
-- then each record's leaf is written and the nodes above it are marked; and the marked nodes are rewritten level by level: by going over the
-- records on the levels that have many more nodes than there are records, and node by node above them.
-- Nothing here has to be believed: that a push made of them is what its definition says is proved in push_entries.
use Rattle.std.specs.Prelude.{◌≡◌, Bool, cond, ◌&&◌, List, [], ◌∷◌, ℕ, zero, suc, ◌+◌, ◌*◌, ◌-◌, ◌/◌, ◌^◌, ◌≤◌, ◌<◌, eqb, ltb, leb, length, replicate}
use Rattle.refusals.specs.Table.{first_refusal}
use Rattle.parameters.specs.declared.ParameterSet.{ParameterSet}
use Rattle.parameters.specs.ParameterSet.{set_refusals}
use Rattle.merkle.specs.Marks.{mark_change, rewrite_marked, sweep}
use Rattle.merkle.specs.Numbering.{inner}
use Rattle.merkle.specs.Replacement.{Counted}
use Rattle.repeats.specs.Maps.{window, map_words}
use Rattle.trees.specs.Shapes.{counted}
use Rattle.trees.specs.SetTrees.{tree_of_set, dimensions_of, leaf_count, store_words}
use Rattle.marks.specs.Marks.{mark, Rank}
use Rattle.records.specs.declared.record.Record.{Record}
use Rattle.records.specs.declared.tally.Tally.{Tally}
use Rattle.records.specs.Records.{leaf_of}
use Rattle.pushes.specs.declared.phase.Phase.{Phase}
use Rattle.pushes.specs.declared.phase.Phase.TheVariants.{Test, Mark, Level, Search}
use Rattle.records.specs.Tests.{Pass, pass, test_of, is_clear, ranked, note_of, search_end}

-- ---- the leaves, the marks and the nodes

unfoldable pub may_write : Tally → ℕ → Bool
may_write t q = is_clear t && (t.distinct && ltb q t.places)

abbrev pub counting : Tally → ℕ → Tally
counting t n = ranked t t.before t.under n

abbrev pub wrote : Tally → Counted → Pass
wrote t c = pass (counting t c.made) c.store

-- nothing is refused
unfoldable pub may_rise : Tally → Bool
may_rise t = is_clear t && t.distinct

-- a leaf written if its place is one of n, and the nodes above it marked
unfoldable pub mark_leaf : ParameterSet → ℕ → ℕ → List ℕ → List ℕ → List ℕ
mark_leaf s n q leaf store = cond (ltb q n) (mark_change (tree_of_set s) mark s.height (record { place = q; leaf = leaf }) store) store

-- a record's, where nothing is refused
unfoldable pub mark_of : ParameterSet → Record → Pass → Pass
mark_of s r u =
    cond (may_rise u.tally) (pass u.tally (mark_leaf s u.tally.places r.place (leaf_of s.node_size r) u.buffer)) u

-- the node over a place rewritten if it is marked, on the level of the tally's numbers
unfoldable pub rise_of : ParameterSet → ℕ → Pass → Pass
rise_of s q u =
    cond (may_write u.tally q)
    (wrote u.tally (rewrite_marked (tree_of_set s) mark u.tally.places (u.tally.before + q / u.tally.under) (counted u.buffer u.tally.made)))
    u

-- ---- the passes

-- the phases' numbers
abbrev pub phase_number : Phase → ℕ
phase_number Test = 0
phase_number Mark = 1
phase_number Level = 2
phase_number (Search w) = 3 + w

-- phase 0 tests, 1 writes leaves and marks, 2 goes over a level, and 3 + w searches window w
unfoldable pub step_of : ParameterSet → ℕ → Record → Pass → Pass
step_of s phase r u =
    cond (eqb phase 0) (test_of s r u)
    (cond (eqb phase 1) (mark_of s r u)
    (cond (eqb phase 2) (rise_of s r.place u) (note_of ((phase - 3) * window) r.place u)))

-- the records in order
unfoldable pub each_of : ParameterSet → ℕ → List Record → Pass → Pass
each_of s phase [] u = u
each_of s phase (r ∷ rs) u = each_of s phase rs (step_of s phase r u)

-- the first n windows, each with an empty map
unfoldable pub windows_of : ParameterSet → List Record → ℕ → Tally → Tally
windows_of s rs zero t = t
windows_of s rs (suc n) t = (each_of s (3 + n) rs (pass (windows_of s rs n t) (replicate map_words 0))).tally

unfoldable pub search_of : ParameterSet → List Record → Tally → Tally
search_of s rs t = windows_of s rs (search_end t - 3) t

-- ---- the levels

-- how many levels have more than n nodes, of the i levels above one of m nodes
unfoldable pub levels_by : ℕ → ℕ → ℕ → ℕ → ℕ
levels_by k zero m n = 0
levels_by k (suc i) m n = cond (leb (m / k) n) 0 (suc (levels_by k i (m / k) n))

-- how many are made by going over the records
unfoldable pub by_records : Tally → ℕ
by_records t = cond (may_rise t) t.levels 0

-- the numbers of the next level
unfoldable pub next_of : ParameterSet → Tally → Tally
next_of s t = ranked t (t.before + t.places / t.under) (t.under * (dimensions_of s).arity) t.made

abbrev pub upwards : ParameterSet → Pass → Pass
upwards s u = pass (next_of s u.tally) u.buffer

-- the first n levels
unfoldable pub levels_up_to : ParameterSet → List Record → ℕ → Pass → Pass
levels_up_to s rs zero u = u
levels_up_to s rs (suc n) u = upwards s (each_of s 2 rs (levels_up_to s rs n u))

unfoldable pub levels_of : ParameterSet → List Record → Pass → Pass
levels_of s rs u = levels_up_to s rs (by_records u.tally) u

-- all nodes of the levels above them
unfoldable pub sweep_of : ParameterSet → Pass → Pass
sweep_of s u =
    cond (may_rise u.tally)
    (wrote u.tally
    (sweep (tree_of_set s) mark u.tally.places u.tally.before (inner (tree_of_set s) s.height - u.tally.before) (counted u.buffer u.tally.made)))
    u

-- ---- what is presumed

-- What the levels presume: nothing is counted yet that would leave no room, and the first level is the next.
pub record Rising (s : ParameterSet) (store : List ℕ) (t : Tally) (n : ℕ) : Type 0 where
  pub accepted : t.number ≡ 0 → first_refusal (set_refusals s) ≡ 0
  pub whole : t.number ≡ 0 → length store ≡ store_words s
  pub places : t.number ≡ 0 → t.places ≡ leaf_count s
  pub levels : t.number ≡ 0 → t.levels ≤ s.height
  pub before : t.number ≡ 0 → t.before ≡ 0
  pub under : t.number ≡ 0 → t.under ≡ (dimensions_of s).arity
  pub counts : t.made + 64 * n < 2 ^ 64

-- What the numbers of the next level presume: those of a level.
pub record Risen (s : ParameterSet) (t : Tally) : Type 0 where
  pub accepted : first_refusal (set_refusals s) ≡ 0
  pub places : t.places ≡ leaf_count s
  pub rank : Rank (dimensions_of s) t.before t.under

-- What the nodes above them presume.
pub record Sweeping (s : ParameterSet) (store : List ℕ) (t : Tally) : Type 0 where
  pub accepted : t.number ≡ 0 → first_refusal (set_refusals s) ≡ 0
  pub whole : t.number ≡ 0 → length store ≡ store_words s
  pub places : t.number ≡ 0 → t.places ≡ leaf_count s
  pub first : t.number ≡ 0 → t.before ≤ inner (tree_of_set s) s.height
  pub counts : t.number ≡ 0 → t.made + t.places < 2 ^ 64
