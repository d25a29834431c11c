-- What a push writes where nothing is refused: its leaves and marks, the levels by the records and all nodes above them are together the push
-- that is defined.
use mathlib.Core.Path.{◌≡◌, refl, sym, ap, ◌∙◌}
use mathlib.Core.Bool.{Bool, true, cond}
use mathlib.Core.List.{List, [], ◌∷◌}
use Prim.Native.Nat.{ℕ, zero, suc, ◌+◌, ◌*◌, ◌-◌, ◌/◌, ◌^◌, ◌≤◌}
use native.Mathlib.Omega.{arith}
use lib.Dec.{ltb}
use lib.ListN.{length}
use borrow.Author.Tests.{eq-eqb}
use Rattle.modular.specs.Arithmetic.{all_words}
use Rattle.modular.proofs.Words.{left_true, right_true}
use Rattle.refusals.specs.Table.{first_refusal}
use Rattle.fields.proofs.Prime.{prime_fits}
use Rattle.parameters.specs.declared.ParameterSet.{ParameterSet}
use Rattle.parameters.specs.ParameterSet.{prime_of, set_refusals}
use Rattle.merkle.specs.Levels.{Shape}
use Rattle.merkle.specs.Marks.{mark_change, mark_all, rewrite_marked, rewrite_over, rise, sweep, push_marked}
use Rattle.merkle.specs.Numbering.{rows_before, inner}
use Rattle.merkle.specs.Replacement.{Counted, Change, push}
use Rattle.merkle.proofs.Marks.{marked}
use Rattle.merkle.proofs.Numbering.{rows_none}
use Rattle.trees.specs.Shapes.{counted}
use Rattle.trees.specs.SetTrees.{tree_of_set, dimensions_of, leaf_count, store_words}
use Rattle.trees.proofs.Shapes.{keeps_words}
use Rattle.trees.proofs.SetTrees as tree_of
use Rattle.marks.specs.Marks.{mark}
use Rattle.records.specs.declared.record.Record.{Record}
use Rattle.records.specs.declared.tally.Tally.{Tally}
use Rattle.records.specs.Records.{leaf_of, changes_of, places_of, places_below, used_words}
use Rattle.records.specs.Tests.{Pass, pass, is_clear, ranked}
use Rattle.pushes.specs.Passes.{may_write, may_rise, counting, wrote, mark_leaf, mark_of, rise_of, step_of, each_of, by_records, next_of, upwards, levels_up_to, levels_of, sweep_of}
use Rattle.records.proofs.Changes.{changes_places, changes_words, changes_fit}
use Rattle.pushes.proofs.Ranks.{first_under, next_before, next_under}

-- ---- a tally that allows every write

-- nothing is refused
pub record Clear (t : Tally) : Type 0 where
  pub number : t.number ≡ 0
  pub placed : t.placed ≡ true
  pub words : t.words ≡ true
  pub distinct : t.distinct ≡ true

clear_rises : (t : Tally) → Clear t → may_rise t ≡ true
unfolding may_rise is_clear
clear_rises t C = rw (eq-eqb t.number 0 C.number, C.placed, C.words, C.distinct)

clear_writes : (t : Tally) (q : ℕ) → Clear t → ltb q t.places ≡ true → may_write t q ≡ true
unfolding may_write is_clear
clear_writes t q C e = rw (eq-eqb t.number 0 C.number, C.placed, C.words, C.distinct, e)

clear_ranked : (t : Tally) (b u m : ℕ) → Clear t → Clear (ranked t b u m)
clear_ranked t b u m C = record { number = C.number; placed = C.placed; words = C.words; distinct = C.distinct }

module _ (s : ParameterSet) where
  abbrev S : Shape
  S = tree_of_set s

  -- the leaves and the marks
  mark_all_lem : (rs : List Record) (t : Tally) (store : List ℕ) → Clear t → places_below t.places rs ≡ true
      → each_of s 1 rs (pass t store) ≡ pass t (mark_all S mark s.height (changes_of s.node_size rs) store)
  unfolding each_of places_below changes_of mark_all step_of mark_of mark_leaf
  mark_all_lem [] t store C e = refl
  mark_all_lem (r ∷ rs) t store C e =
      let a = left_true (ltb r.place t.places) (places_below t.places rs) e in
      let b = right_true (ltb r.place t.places) (places_below t.places rs) e in
      let c : Change = record { place = r.place; leaf = leaf_of s.node_size r } in
      ap (each_of s 1 rs) (rw (clear_rises t C, a) refl) ∙ mark_all_lem rs t (mark_change S mark s.height c store) C b

  -- a level by the records
  level_all : (rs : List Record) (t : Tally) (store : List ℕ) → Clear t → places_below t.places rs ≡ true
      → each_of s 2 rs (pass t store) ≡ wrote t (rewrite_over S mark t.places t.before t.under (places_of rs) (counted store t.made))
  unfolding each_of places_below places_of rewrite_over step_of rise_of
  level_all [] t store C e = refl
  level_all (r ∷ rs) t store C e =
      let a = left_true (ltb r.place t.places) (places_below t.places rs) e in
      let b = right_true (ltb r.place t.places) (places_below t.places rs) e in
      let c : Counted = rewrite_marked S mark t.places (t.before + r.place / t.under) (counted store t.made) in
      ap (each_of s 2 rs) (rw (clear_writes t r.place C a) refl)
      ∙ level_all rs (counting t c.made) c.store (record { number = C.number; placed = C.placed; words = C.words; distinct = C.distinct }) b

  -- what a push has tested before it writes
  pub record Ready (rs : List Record) (t : Tally) (store : List ℕ) : Type 0 where
    pub clear : Clear t
    pub accepted : first_refusal (set_refusals s) ≡ 0
    pub places : t.places ≡ leaf_count s
    pub below : places_below (leaf_count s) rs ≡ true
    pub whole : length store ≡ store_words s
    pub leaves : all_words (prime_of s) (used_words s.node_size rs) ≡ true
    pub words : all_words (prime_of s) store ≡ true
    pub levels : t.levels ≤ s.height
    pub before : t.before ≡ 0
    pub under : t.under ≡ (dimensions_of s).arity
    pub made : t.made ≡ 0

  module _ (rs : List Record) (t : Tally) (store : List ℕ) (R : Ready rs t store) where
    abbrev k : ℕ
    k = (dimensions_of s).arity

    abbrev h : ℕ
    h = s.height

    abbrev cs : List Change
    cs = changes_of s.node_size rs

    below_places : places_below t.places rs ≡ true
    below_places = rw R.places R.below

    abbrev pub begun : List ℕ
    begun = mark_all S mark h cs store

    -- levels 1 to j
    abbrev pub up_to : ℕ → Counted
    up_to j = rise S mark h (places_of rs) j (counted begun 0)

    abbrev pub at_level : ℕ → Tally
    at_level j = ranked t (rows_before S h j) (k ^ suc j) (up_to j).made

    levels_all : (j : ℕ) → j ≤ h → levels_up_to s rs j (pass t begun) ≡ pass (at_level j) (up_to j).store
    unfolding levels_up_to rise next_of
    levels_all zero b =
        (λ i. pass (ranked t (R.before i) (R.under i) (R.made i)) begun)
        ∙ (λ i. pass (ranked t (sym (rows_none S (tree_of.shape_regular s R.accepted) h) i) (first_under s R.accepted i) 0) begun)
    levels_all (suc j) b =
        let c : Counted = rewrite_over S mark (k ^ h) (rows_before S h j) (k ^ suc j) (places_of rs) (up_to j) in
        ap (λ (u : Pass). upwards s (each_of s 2 rs u)) (levels_all j (omega arith))
        ∙ ap (upwards s) (level_all rs (at_level j) (up_to j).store (clear_ranked t (rows_before S h j) (k ^ suc j) (up_to j).made R.clear) below_places)
        ∙ (λ i. upwards s (wrote (at_level j) (rewrite_over S mark (R.places i) (rows_before S h j) (k ^ suc j) (places_of rs) (up_to j))))
        ∙ (λ i. pass (ranked t (rows_before S h j + R.places i / k ^ suc j) (k ^ suc j * k) c.made) c.store)
        ∙ (λ i. pass (ranked t (next_before s R.accepted j b i) (next_under s R.accepted j i) c.made) c.store)

    -- all of it
    abbrev last : Pass
    last = sweep_of s (levels_of s rs (each_of s 1 rs (pass t store)))

    swept : last ≡ wrote (at_level t.levels) (push_marked S mark h t.levels cs store)
    unfolding levels_of by_records sweep_of push_marked
    swept =
        let e : ℕ = t.levels in
        let m : may_rise t ≡ true = clear_rises t R.clear in
        let m' : may_rise (at_level e) ≡ true = clear_rises (at_level e) (clear_ranked t (rows_before S h e) (k ^ suc e) (up_to e).made R.clear) in
        ap (λ (u : Pass). sweep_of s (levels_of s rs u)) (mark_all_lem rs t store R.clear below_places)
        ∙ ap (λ (b : Bool). sweep_of s (levels_up_to s rs (cond b e 0) (pass t begun))) m
        ∙ ap (sweep_of s) (levels_all e R.levels)
        ∙ ap
        (λ (b : Bool).
        cond b (wrote (at_level e) (sweep S mark t.places (rows_before S h e) (inner S h - rows_before S h e) (up_to e))) (pass (at_level e) (up_to e).store))
        m'
        ∙ (λ i. wrote (at_level e) (sweep S mark (R.places i) (rows_before S h e) (inner S h - rows_before S h e) (up_to e)))
        ∙ (λ i. wrote (at_level e) (sweep S mark (k ^ h) (rows_before S h e) (inner S h - rows_before S h e)
        (rise S mark h (sym (changes_places s.node_size rs) i) e (counted begun 0))))

    pub writes : last ≡ wrote (at_level t.levels) (push S h cs store)
    writes =
        swept
        ∙ ap (wrote (at_level t.levels))
        (marked (prime_of s) S (tree_of.shape_regular s R.accepted) (keeps_words (tree_of.valid_numbers s R.accepted) s.diagonal s.constants) mark h t.levels cs store
        (omega (arith, prime_fits)) R.levels (changes_fit s rs R.below) (changes_words (prime_of s) s.node_size rs R.leaves) R.whole R.words)
