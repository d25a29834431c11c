-- What is claimed of pushes beside their contracts: an accepted one against the same records done singly, and a push of records that are
-- handed in as numbers, which is a push of these records, so that what is claimed of pushes holds of both.
use Rattle.std.specs.Prelude.{◌≡◌, true, List, [], ◌∷◌, ℕ, ◌*◌, ◌≤◌, length}
use Rattle.refusals.specs.Table.{done}
use Rattle.parameters.specs.declared.ParameterSet.{ParameterSet}
use Rattle.merkle.specs.Above.{nodes_above}
use Rattle.merkle.specs.Replacement.{changed, levelwise}
use Rattle.trees.specs.SetTrees.{tree_of_set}
use Rattle.change_entries.specs.Replacement.{replace_reply, replaced}
use Rattle.records.specs.declared.record.Record.{Record}
use Rattle.records.specs.Records.{leaf_of, changes_of, places_of, SixWords}
use Rattle.records.specs.Listed.{listed, whole_records, flat}
use Rattle.push_entries.specs.Pushes.{push_reply, pushed}
use Rattle.push_entries.specs.Listed.{listed_reply, listed_pushed}

-- ---- the records done singly

-- one replacement after another, each by the entry `replace`: the store that they leave
unfoldable pub done_singly : ParameterSet → List Record → List ℕ → List ℕ
done_singly s [] store = store
done_singly s (r ∷ rs) store = done_singly s rs (replaced s store r.place (leaf_of s.node_size r))

-- and that none of them is refused: each answers h
abbrev pub EachDone : ParameterSet → List Record → List ℕ → Type 0
EachDone s [] store = Unit {0}
EachDone s (r ∷ rs) store =
    (replace_reply s store r.place (leaf_of s.node_size r) ≡ done (s.height ∷ [])) × EachDone s rs (replaced s store r.place (leaf_of s.node_size r))

-- An accepted push that answers this count.
pub record Once (s : ParameterSet) (store : List ℕ) (rs : List Record) (answer : ℕ) : Type 0 where
  -- the count: the different nodes above the places, and at most h for each record
  pub counted : answer ≡ nodes_above (tree_of_set s).arity s.height (places_of rs)
  pub most : answer ≤ s.height * length rs
  -- the store: what the records done singly leave
  pub singly : EachDone s rs store
  pub left : pushed s store rs ≡ done_singly s rs store
  -- Both are made by the one function alone (Rules 5.1): from the store with all leaves written, and the count 0, each node above the places is
  -- rewritten once, level by level.
  pub by_one : levelwise (tree_of_set s) s.height (places_of rs) s.height (record { store = changed (tree_of_set s) (changes_of s.node_size rs) store; made = 0 })
      ≡ record { store = pushed s store rs; made = answer }

-- Whatever the store: a push that is accepted has tested that it is words (Rules 5.5), and nothing else of its nodes.
abbrev pub PushesOnce : Type 0
PushesOnce =
    (s : ParameterSet) (store : List ℕ) (rs : List Record) (answer : ℕ) → SixWords rs → push_reply s store rs ≡ done (answer ∷ []) → Once s store rs answer

-- ---- records as numbers

-- A list of whole records answers and leaves what `push` does with those records, and they have six words, as a record's type says.
pub record SamePush (s : ParameterSet) (store numbers : List ℕ) : Type 0 where
  pub answer : listed_reply s store numbers ≡ push_reply s store (listed numbers)
  pub left : listed_pushed s store numbers ≡ pushed s store (listed numbers)
  pub six_words : SixWords (listed numbers)

-- Every list of records is read from its own numbers, which are whole records: so no push is out of a list of numbers' reach.
pub record Read (rs : List Record) : Type 0 where
  pub whole : whole_records (flat rs) ≡ true
  pub records : listed (flat rs) ≡ rs

pub record ListedPushes : Type 0 where
  pub same : (s : ParameterSet) (store numbers : List ℕ) → whole_records numbers ≡ true → SamePush s store numbers
  pub every : (rs : List Record) → SixWords rs → Read rs
