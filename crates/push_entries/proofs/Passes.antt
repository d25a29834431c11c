-- The passes together give what `Pushes` says, whatever the set, the store and the records.
use mathlib.Core.Path.{◌≡◌, refl, sym, ap, subst, ◌∙◌}
use mathlib.Core.Logic.{◌≢◌, ◌⊎◌, inl, inr}
use mathlib.Core.Bool.{Bool, true, false, cond, not, ◌&&◌, false≢true, and-false, and_comm}
use mathlib.Core.List.{List, [], ◌∷◌, ◌++◌, append_assoc}
use Prim.Native.Nat.{ℕ, zero, suc, ◌+◌, ◌*◌, ◌^◌, ◌≤◌, ◌<◌}
use native.Mathlib.Nat.{mul-le-mul_right}
use native.Mathlib.Omega.{arith}
use lib.Dec.{lit<, eqb, leb}
use lib.ListN.{length, replicate, length-replicate}
use borrow.Author.Tests.{eq-eqb, ne_eqb, eqb-true, leb-true, not-false}
use Rattle.modular.specs.Arithmetic.{all_words}
use Rattle.modular.proofs.Words.{left_true, right_true, words_both}
use Rattle.std.specs.Result.{IsErrAnd}
use Rattle.refusals.specs.Table.{Refusal, refusal, first_refusal, not_words, refused}
use Rattle.refusals.proofs.Table.{Numbered, none, next, numbered_append, refusal_applies, refusal_passes, refusal_none, first_front, first_back, first_none, front_answers, refused_equations, done_equations}
use Rattle.refusals.specs.Answers.{Answer, number_of}
use Rattle.refusals.specs.declared.Refusal.{Refusal as Refused}
use Rattle.refusals.proofs.Answers.{nonzero, refusal_returned}
use Rattle.refusals.proofs.LengthsPlacesAndWords.{twelve_first, twelve_passed}
use Rattle.parameters.specs.declared.ParameterSet.{ParameterSet}
use Rattle.parameters.specs.ParameterSet.{prime_of, set_refusals}
use Rattle.parameters.proofs.Accepted.{set-numbered}
use Rattle.merkle.specs.Numbering.{rows_before}
use Rattle.merkle.specs.Replacement.{Counted}
use Rattle.repeats.specs.Repeats.{repeats}
use Rattle.repeats.specs.Maps.{map_words}
use Rattle.repeats.proofs.Members.{member_none}
use Rattle.trees.specs.SetTrees.{tree_of_set, dimensions_of, leaf_count, store_words}
use Rattle.trees.proofs.SetTrees as tree_of
use Rattle.tree_entries.specs.Trees.{has}
use Rattle.change_entries.specs.Replacement.{changed_reply}
use Rattle.records.specs.declared.record.Record.{Record}
use Rattle.records.specs.declared.tally.Tally.{Tally}
use Rattle.records.specs.Records.{places_of, places_below, used_words}
use Rattle.push_entries.specs.Pushes.{push_refusals, pushing, push_reply, pushed}
use Rattle.records.specs.Tests.{Pass, pass, keepable, test_of, is_clear, ranked, finding, wanted, room_of, Going}
use Rattle.pushes.specs.Passes.{may_write, may_rise, counting, wrote, rise_of, next_of, step_of, each_of, search_of, levels_by, by_records, levels_up_to, levels_of, sweep_of, Rising, Sweeping}
use Rattle.passes.proofs.Tests.{Tested, tested_all, Seen, seen_all}
use Rattle.passes.proofs.Searching.{search_none, search_finds, search_only}
use Rattle.passes.proofs.Turns.{marks_tally, marks_none}
use Rattle.pushes.proofs.Ranks.{levels_few, by_few, before_inside}
use Rattle.passes.proofs.Rising.{levels_at}
use Rattle.push_entries.specs.Ends.{early_refusals, begun, begin_of, finish_of}
use Rattle.push_entries.proofs.Early.{early_numbered}
use Rattle.push_entries.proofs.Writing.{Clear, Ready, writes}

-- ---- tallies that allow no write

and_fails : (a b : Bool) → b ≡ false → (a && b) ≡ false
and_fails a b e = ap (λ (c : Bool). a && c) e ∙ and-false a

-- a refusal up to 12
module _ (t : Tally) where
  unclear_early : eqb t.number 0 ≡ false → is_clear t ≡ false
  unfolding is_clear
  unclear_early e = ap (λ (b : Bool). b && (t.placed && t.words)) e

  unclear_places : t.placed ≡ false → is_clear t ≡ false
  unfolding is_clear
  unclear_places e = and_fails (eqb t.number 0) (t.placed && t.words) (ap (λ (b : Bool). b && t.words) e)

  unclear_words : t.words ≡ false → is_clear t ≡ false
  unfolding is_clear
  unclear_words e = and_fails (eqb t.number 0) (t.placed && t.words) (and_fails t.placed t.words e)

  -- then no search is wanted
  unwanted : is_clear t ≡ false → wanted t ≡ false
  unfolding wanted
  unwanted e = ap (λ (b : Bool). b && (not t.rising && not t.few)) e

  -- nor anything written, nor after a place that was found twice
  abbrev Stopped : Type 0
  Stopped = (is_clear t ≡ false) ⊎ (t.distinct ≡ false)

  no_rise : Stopped → may_rise t ≡ false
  unfolding may_rise
  no_rise (inl e) = ap (λ (b : Bool). b && t.distinct) e
  no_rise (inr e) = and_fails (is_clear t) t.distinct e

module _ (s : ParameterSet) where
  -- all that is written, from the leaves to the root
  abbrev pub write : List Record → Pass → Pass
  write rs u = sweep_of s (levels_of s rs (each_of s 1 rs u))

  levels_none : (rs : List Record) (u : Pass) → may_rise u.tally ≡ false → levels_of s rs u ≡ u
  unfolding levels_of by_records levels_up_to
  levels_none rs u e = rw e refl

  sweep_none : (u : Pass) → may_rise u.tally ≡ false → sweep_of s u ≡ u
  unfolding sweep_of
  sweep_none u e = rw e refl

  write_none : (rs : List Record) (t : Tally) (store : List ℕ) → Stopped t → write rs (pass t store) ≡ pass t store
  write_none rs t store S =
      ap (λ (u : Pass). sweep_of s (levels_of s rs u)) (marks_none s rs t store (no_rise t S))
      ∙ ap (sweep_of s) (levels_none rs (pass t store) (no_rise t S)) ∙ sweep_none (pass t store) (no_rise t S)

  -- a tally with an early refusal stays in the tests too
  test_stays : (r : Record) (t : Tally) (seen : List ℕ) → eqb t.number 0 ≡ false → step_of s 0 r (pass t seen) ≡ pass t seen
  unfolding step_of test_of
  test_stays r t seen e = rw e

  test_none : (rs : List Record) (t : Tally) (seen : List ℕ) → eqb t.number 0 ≡ false → each_of s 0 rs (pass t seen) ≡ pass t seen
  unfolding each_of
  test_none [] t seen e = refl
  test_none (r ∷ rs) t seen e = ap (each_of s 0 rs) (test_stays r t seen e) ∙ test_none rs t seen e

  -- what is written leaves the number
  wrote_number : (b : Bool) (c : Counted) (u : Pass) → (cond b (wrote u.tally c) u).tally.number ≡ u.tally.number
  wrote_number true c u = refl
  wrote_number false c u = refl

  level_number : (rs : List Record) (u : Pass) → (each_of s 2 rs u).tally.number ≡ u.tally.number
  unfolding each_of step_of rise_of
  level_number [] u = refl
  level_number (r ∷ rs) u = level_number rs (step_of s 2 r u) ∙ wrote_number (may_write u.tally r.place) _ u

  levels_number : (rs : List Record) (i : ℕ) (u : Pass) → (levels_up_to s rs i u).tally.number ≡ u.tally.number
  unfolding levels_up_to next_of
  levels_number rs zero u = refl
  levels_number rs (suc i) u = level_number rs (levels_up_to s rs i u) ∙ levels_number rs i u

  sweep_number : (u : Pass) → (sweep_of s u).tally.number ≡ u.tally.number
  unfolding sweep_of
  sweep_number u = wrote_number (may_rise u.tally) _ u

-- ---- all of them

module _ (s : ParameterSet) (xs : List ℕ) (ys : List Record) where
  abbrev n : ℕ
  n = leaf_count s

  abbrev used : List ℕ
  used = used_words s.node_size ys

  abbrev early_rows : List Refusal
  early_rows = early_refusals s xs (length ys)

  abbrev late : List Refusal
  late = refusal 11 (not (places_below n ys)) ∷ not_words (prime_of s) (used ++ xs) ∷ refusal 17 (repeats (places_of ys)) ∷ []

  abbrev room : List ℕ
  room = replicate keepable 0

  -- the tally at the beginning, by the first of the early refusals
  abbrev first : ℕ → Tally
  first k = begun k n (all_words (prime_of s) xs) (leb (length ys) keepable) (levels_by (dimensions_of s).arity s.height n (length ys * 8)) (dimensions_of s).arity

  -- after the tests, and after the search
  abbrev tests : Tally → Tally
  tests t = (each_of s 0 ys (pass t room)).tally

  abbrev judges : Tally → Tally
  judges t = search_of s ys (tests t)

  refusals_are : push_refusals s xs ys ≡ early_rows ++ late
  unfolding push_refusals early_refusals
  refusals_are = sym (append_assoc (set_refusals s) (refusal 10 (not (has xs (store_words s) && leb (length ys) (2 ^ 32))) ∷ []) late)

  pub push_numbered : Numbered (push_refusals s xs ys)
  unfolding push_refusals not_words
  push_numbered = numbered_append (set-numbered s) (next (lit< tt) (next (lit< tt) (next (lit< tt) (next (lit< tt) none))))

  late_refusal : first_refusal early_rows ≡ 0 → first_refusal (push_refusals s xs ys) ≡ first_refusal late
  late_refusal e = ap first_refusal refusals_are ∙ first_back early_rows late (early_numbered s xs (length ys)) e

  -- what the push claims of the tally and the store at its end
  abbrev Right : Pass → Type 0
  Right u = (finish_of u.tally ≡ push_reply s xs ys) × (u.buffer ≡ pushed s xs ys)

  -- a push that stops with a number
  is_refused : (k : ℕ) (t : Tally) → Stopped t → finish_of t ≡ refused k → k ≢ 0 → first_refusal (push_refusals s xs ys) ≡ k → Right (write s ys (pass t xs))
  unfolding push_reply pushed
  is_refused k t S f o e =
      let E = refused_equations (push_refusals s xs ys) ((pushing s xs ys).made ∷ []) xs (pushing s xs ys).store k (sym e) o in
      subst Right (sym (write_none s ys t xs S)) (f ∙ E.0, E.1)

  -- ---- an early refusal

  module _ (k : ℕ) (e : first_refusal early_rows ≡ suc k) where
    abbrev t₁ : Tally
    t₁ = first (suc k)

    refused_early : eqb t₁.number 0 ≡ false
    refused_early = ne_eqb (suc k) 0 (λ z. absurd (omega (arith, z)))

    judged_early : judges t₁ ≡ t₁
    judged_early = ap (λ (u : Pass). search_of s ys u.tally) (test_none s ys t₁ room refused_early) ∙ search_none s ys t₁ (unwanted t₁ (unclear_early t₁ refused_early))

    stops_early : Right (write s ys (pass (judges t₁) xs))
    unfolding finish_of
    stops_early =
        subst (λ (t : Tally). Right (write s ys (pass t xs))) (sym judged_early)
        (is_refused (suc k) t₁ (inl (unclear_early t₁ refused_early)) (rw refused_early) (λ y. absurd (omega (arith, y)))
        (ap first_refusal refusals_are ∙ first_front early_rows late (λ y. absurd (omega (arith, e, y))) ∙ e))

  -- ---- none

  module _ (e : first_refusal early_rows ≡ 0) where
    abbrev t₂ : Tally
    t₂ = tests (first 0)

    T : Tested s ys (first 0) t₂
    T = tested_all s ys (first 0) room refl

    clear_number : eqb t₂.number 0 ≡ true
    clear_number = eq-eqb t₂.number 0 T.number

    -- 11 and 12 stop the push before the search
    at_11 : places_below n ys ≡ false → Right (write s ys (pass (judges (first 0)) xs))
    unfolding finish_of
    at_11 f =
        let p : t₂.placed ≡ false = T.placed ∙ f in
        subst (λ (t : Tally). Right (write s ys (pass t xs))) (sym (search_none s ys t₂ (unwanted t₂ (unclear_places t₂ p))))
        (is_refused 11 t₂ (inl (unclear_places t₂ p)) (rw (clear_number, p)) (λ y. absurd (omega (arith, y))) (late_refusal e ∙ refusal_applies 11 (not (places_below n ys)) _ (ap not f)))

    module _ (below : places_below n ys ≡ true) where
      after_11 : first_refusal (push_refusals s xs ys) ≡ first_refusal (not_words (prime_of s) (used ++ xs) ∷ refusal 17 (repeats (places_of ys)) ∷ [])
      after_11 = late_refusal e ∙ refusal_passes 11 (not (places_below n ys)) _ (ap not below)

      placed : t₂.placed ≡ true
      placed = T.placed ∙ below

      all_words_lem : all_words (prime_of s) (used ++ xs) ≡ (all_words (prime_of s) xs && all_words (prime_of s) used)
      all_words_lem = words_both (prime_of s) used xs ∙ and_comm (all_words (prime_of s) used) (all_words (prime_of s) xs)

      at_12 : (all_words (prime_of s) xs && all_words (prime_of s) used) ≡ false → Right (write s ys (pass (judges (first 0)) xs))
      unfolding finish_of
      at_12 f =
          let w : t₂.words ≡ false = T.words ∙ f in
          subst (λ (t : Tally). Right (write s ys (pass t xs))) (sym (search_none s ys t₂ (unwanted t₂ (unclear_words t₂ w))))
          (is_refused 12 t₂ (inl (unclear_words t₂ w)) (rw (clear_number, placed, w)) (λ y. absurd (omega (arith, y))) (after_11 ∙ twelve_first (prime_of s) (used ++ xs) _ (all_words_lem ∙ f)))

      module _ (wordy : (all_words (prime_of s) xs && all_words (prime_of s) used) ≡ true) where
        after_12 : first_refusal (push_refusals s xs ys) ≡ first_refusal (refusal 17 (repeats (places_of ys)) ∷ [])
        after_12 = after_11 ∙ twelve_passed (prime_of s) (used ++ xs) _ (all_words_lem ∙ wordy)

        nothing_seen : Seen [] (first 0) room
        unfolding repeats
        nothing_seen = record {
          room = length-replicate {A = ℕ} keepable 0;
          below = λ z x m. absurd (false≢true (sym (member_none x) ∙ m));
          risen = λ z. repeats_none;
          kept = λ z. refl;
          count = λ z. refl;
          compared = λ z. sym (ap not repeats_none);
          left = λ z. refl;
        }
          where
            repeats_none : repeats [] ≡ false
            repeats_none = refl

        all_seen : Seen (places_of ys) t₂ (each_of s 0 ys (pass (first 0) room)).buffer
        all_seen = seen_all s ys [] (first 0) room refl nothing_seen below (λ f. omega (arith, leb-true (length ys) keepable f))

        judged : judges (first 0) ≡ finding t₂ (not (repeats (places_of ys)))
        judged =
            search_finds s ys t₂ (each_of s 0 ys (pass (first 0) room)).buffer T.number placed (T.words ∙ wordy)
            (subst (λ (m : ℕ). places_below m ys ≡ true) (sym T.places) below) all_seen

        at_17 : (b : Bool) → repeats (places_of ys) ≡ b → Right (write s ys (pass (finding t₂ (not b)) xs))
        unfolding finish_of push_reply pushed first_refusal early_refusals
        at_17 true f =
            is_refused 17 (finding t₂ false) (inr refl) (rw (clear_number, placed, T.words ∙ wordy)) (λ y. absurd (omega (arith, y)))
            (after_12 ∙ refusal_applies 17 (repeats (places_of ys)) [] f)
        at_17 false f =
            let t : Tally = finding t₂ true in
            let z = after_12 ∙ refusal_passes 17 (repeats (places_of ys)) [] f in
            let E = done_equations (push_refusals s xs ys) ((pushing s xs ys).made ∷ []) xs (pushing s xs ys).store push_numbered z in
            let C : Clear t = record { number = T.number; placed = placed; words = T.words ∙ wordy; distinct = refl } in
            let lengths = (refusal_none 9 _ [] (first_none (set_refusals s) _ (set-numbered s) e).1).0 in
            let R : Ready s ys t xs = record {
              clear = C;
              accepted = (first_none (set_refusals s) _ (set-numbered s) e).0;
              places = T.places;
              below = below;
              whole = eqb-true (length xs) (store_words s) (left_true (has xs (store_words s)) (leb (length ys) (2 ^ 32)) (not-false _ lengths));
              leaves = right_true (all_words (prime_of s) xs) (all_words (prime_of s) used) wordy;
              words = left_true (all_words (prime_of s) xs) (all_words (prime_of s) used) wordy;
              levels = rw T.levels (levels_few (dimensions_of s).arity s.height n (length ys * 8));
              before = T.before;
              under = T.under;
              made = T.made;
            } in
            subst Right (sym (writes s ys t xs R)) (
              finished (ranked t (rows_before (tree_of_set s) s.height t.levels) ((dimensions_of s).arity ^ suc t.levels) 0) (pushing s xs ys).made
                  (record { number = C.number; placed = C.placed; words = C.words; distinct = C.distinct }) ∙ E.0,
              E.1,
            )
          where
            finished : (t : Tally) (m : ℕ) → Clear t → finish_of (counting t m) ≡ Rattle.refusals.specs.Table.done (m ∷ [])
            finished t m C = rw (eq-eqb t.number 0 C.number, C.placed, C.words, C.distinct)

        searched : Right (write s ys (pass (judges (first 0)) xs))
        searched = subst (λ (t : Tally). Right (write s ys (pass t xs))) (sym judged) (at_17 (repeats (places_of ys)) refl)

    by_words : places_below n ys ≡ true → (w : Bool) → (all_words (prime_of s) xs && all_words (prime_of s) used) ≡ w → Right (write s ys (pass (judges (first 0)) xs))
    by_words b true f = searched b f
    by_words b false f = at_12 b f

    by_places : (b : Bool) → places_below n ys ≡ b → Right (write s ys (pass (judges (first 0)) xs))
    by_places true f = by_words f (all_words (prime_of s) xs && all_words (prime_of s) used) refl
    by_places false f = at_11 f

  by_early : (k : ℕ) → first_refusal early_rows ≡ k → Right (write s ys (pass (judges (first k)) xs))
  by_early zero e = by_places e (places_below n ys) refl
  by_early (suc k) e = stops_early k e

  -- ---- the push, from its beginning

  abbrev pub begins : Tally
  begins = begin_of s xs (length ys)

  abbrev pub after_tests : Tally
  after_tests = (each_of s 0 ys (pass begins (replicate keepable 0))).tally

  abbrev pub after_search : Tally
  after_search = search_of s ys after_tests

  abbrev pub after_marks : Pass
  after_marks = each_of s 1 ys (pass after_search xs)

  abbrev pub after_levels : Pass
  after_levels = levels_of s ys after_marks

  pub pushes : Right (sweep_of s after_levels)
  unfolding begin_of
  pushes = by_early (first_refusal early_rows) refl

  -- an early refusal stops it at once
  pub at_once : (answer : Answer ℕ) (r : Refused) → IsErrAnd answer (λ e. e ≡ r) → number_of r ≡ first_refusal early_rows → (changed_reply answer ≡ push_reply s xs ys) × (xs ≡ pushed s xs ys)
  unfolding push_reply pushed
  at_once answer r i e =
      refusal_returned (λ made. made ∷ []) answer r (push_refusals s xs ys) ((pushing s xs ys).made ∷ []) xs (pushing s xs ys).store i
      (front_answers early_rows late e (nonzero r) ∙ sym (ap first_refusal refusals_are))

  -- and where there is none its end has no number
  pub unrefused : first_refusal early_rows ≡ 0 → (sweep_of s after_levels).tally.number ≡ 0
  unfolding begin_of levels_of
  unrefused e =
      sweep_number s after_levels ∙ levels_number s ys (by_records after_marks.tally) after_marks
      ∙ ap (λ (t : Tally). t.number) (marks_tally s ys (pass after_search xs))
      ∙ ap (λ (t : Tally). t.number) (search_only s ys after_tests).1
      ∙ (tested_all s ys begins room (ap (λ (k : ℕ). (first k).number) e)).number

  -- ---- what the passes presume

  module _ (bytes : length ys * 56 < 2 ^ 63) where
    -- a tally in the course of a push
    record Way (t : Tally) : Type 0 where
      pub early : t.number ≡ 0 → first_refusal early_rows ≡ 0
      pub places : t.number ≡ 0 → t.places ≡ n
      pub levels : t.number ≡ 0 → t.levels ≤ s.height
      pub before : t.number ≡ 0 → t.before ≡ 0
      pub under : t.number ≡ 0 → t.under ≡ (dimensions_of s).arity
      pub made : t.made ≡ 0

    accepts : (t : Tally) → Way t → t.number ≡ 0 → first_refusal (set_refusals s) ≡ 0
    unfolding early_refusals
    accepts t way f = (first_none (set_refusals s) _ (set-numbered s) (way.early f)).0

    fits : (t : Tally) → Way t → t.number ≡ 0 → length xs ≡ store_words s
    unfolding early_refusals
    fits t way f =
        let lengths = (refusal_none 9 _ [] (first_none (set_refusals s) _ (set-numbered s) (way.early f)).1).0 in
        eqb-true (length xs) (store_words s) (left_true (has xs (store_words s)) (leb (length ys) (2 ^ 32)) (not-false _ lengths))

    asks : (phase : ℕ) → (phase ≡ 2 → ⊥) → (buffer : List ℕ) (t : Tally) → Way t → (t.number ≡ 0 → length xs ≡ store_words s → length buffer ≡ room_of s phase)
        → (phase ≡ 0 → t.few ≡ true → t.kept + length ys ≤ keepable) → phase < 2 ^ 32 → Going s phase buffer t (length ys)
    asks phase other buffer t way whole keeps low =
        record {
          accepted = accepts t way;
          whole = λ f. whole f (fits t way f);
          places = way.places;
          keeps = keeps;
          counts = omega (arith, bytes, way.made);
          rank = λ z. absurd (other z);
          low = low;
        }

    way_first : (k : ℕ) → first_refusal early_rows ≡ k → Way (first k)
    way_first zero e = record {
      early = λ f. e;
      places = λ f. refl;
      levels = λ f. levels_few (dimensions_of s).arity s.height n (length ys * 8);
      before = λ f. refl;
      under = λ f. refl;
      made = refl;
    }
    way_first (suc k) e = record {
      early = λ f. absurd (omega (arith, f));
      places = λ f. absurd (omega (arith, f));
      levels = λ f. absurd (omega (arith, f));
      before = λ f. absurd (omega (arith, f));
      under = λ f. absurd (omega (arith, f));
      made = refl;
    }

    keeps_first : (k : ℕ) → (first k).few ≡ true → (first k).kept + length ys ≤ keepable
    keeps_first zero f = omega (arith, leb-true (length ys) keepable f)
    keeps_first (suc k) f = absurd (false≢true f)

    way_tests : (k : ℕ) → first_refusal early_rows ≡ k → Way (tests (first k))
    way_tests zero e =
        let T = tested_all s ys (first 0) room refl in
        record {
          early = λ f. e;
          places = λ f. T.places;
          levels = λ f. rw T.levels (levels_few (dimensions_of s).arity s.height n (length ys * 8));
          before = λ f. T.before;
          under = λ f. T.under;
          made = T.made;
        }
    way_tests (suc k) e =
        subst Way (sym (ap (λ (u : Pass). u.tally) (test_none s ys (first (suc k)) room (ne_eqb (suc k) 0 (λ z. absurd (omega (arith, z))))))) (way_first (suc k) e)

    way_search : (t : Tally) → Way t → Way (search_of s ys t)
    way_search t way =
        let d = search_only s ys t in
        subst Way (sym d.1) (record { early = way.early; places = way.places; levels = way.levels; before = way.before; under = way.under; made = way.made })

    pub first_asks : Going s 0 (replicate keepable 0) begins (length ys)
    unfolding begin_of room_of
    first_asks = asks 0 (λ z. absurd (omega (arith, z))) room begins (way_first (first_refusal early_rows) refl) (λ f l. length-replicate {A = ℕ} keepable 0) (λ z. keeps_first (first_refusal early_rows)) (lit< tt)

    pub second_asks : Going s 3 (replicate map_words 0) after_tests (length ys)
    unfolding begin_of room_of
    second_asks = asks 3 (λ z. absurd (omega (arith, z))) (replicate map_words 0) after_tests (way_tests (first_refusal early_rows) refl) (λ f l. length-replicate {A = ℕ} map_words 0) (λ z. absurd (omega (arith, z))) (lit< tt)

    searched_way : Way after_search
    unfolding begin_of
    searched_way = way_search after_tests (way_tests (first_refusal early_rows) refl)

    pub third_asks : Going s 1 xs after_search (length ys)
    unfolding room_of
    third_asks = asks 1 (λ z. absurd (omega (arith, z))) xs after_search searched_way (λ f l. l) (λ z. absurd (omega (arith, z))) (lit< tt)

    -- what the levels ask, and the nodes above them
    module _ (t : Tally) (zs : List ℕ) (e : t ≡ after_marks.tally) (long : length zs ≡ length xs) where
      tally_is : t ≡ after_search
      tally_is = e ∙ marks_tally s ys (pass after_search xs)

      way_marks : Way t
      way_marks = subst Way (sym tally_is) searched_way

      pub fourth_asks : Rising s zs t (length ys)
      fourth_asks = record {
        accepted = accepts t way_marks;
        whole = λ f. long ∙ fits t way_marks f;
        places = way_marks.places;
        levels = way_marks.levels;
        before = way_marks.before;
        under = way_marks.under;
        counts = omega (arith, bytes, way_marks.made);
      }

      pub fifth_asks : (t' : Tally) (zs' : List ℕ) → t' ≡ (levels_of s ys (pass t zs)).tally → length zs' ≡ length zs → Sweeping s zs' t'
      unfolding levels_of
      fifth_asks t' zs' f same = subst (Sweeping s zs') (sym f) (go (eqb t.number 0) refl)
        where
          go : (b : Bool) → eqb t.number 0 ≡ b → Sweeping s zs' (levels_up_to s ys (by_records t) (pass t zs)).tally
          go true g =
              let z : t.number ≡ 0 = eqb-true t.number 0 g in
              let none = accepts t way_marks z in
              let low : by_records t ≤ s.height = omega (arith, by_few t, way_marks.levels z) in
              let N = levels_at s ys t zs none (way_marks.places z) (way_marks.before z) (way_marks.under z) (by_records t) low in
              subst (Sweeping s zs') (sym N.is)
              (record {
                accepted = λ h. none;
                whole = λ h. same ∙ long ∙ fits t way_marks z;
                places = λ h. way_marks.places z;
                first = λ h. before_inside s none (by_records t) low;
                counts = λ h.
                    omega (
                      arith,
                      N.few,
                      way_marks.made,
                      way_marks.places z,
                      (tree_of.valid_numbers s none).few,
                      bytes,
                      mul-le-mul_right {m = by_records t} {n = 32} (length ys) (omega (arith, low, (tree_of.valid_numbers s none).low)),
                    );
              })
          go false g =
              subst (λ (u : Pass). Sweeping s zs' u.tally) (sym (levels_none s ys (pass t zs) (no_rise t (inl (unclear_early t g)))))
              (record {
                accepted = λ h. absurd (false≢true (sym g ∙ eq-eqb t.number 0 h));
                whole = λ h. absurd (false≢true (sym g ∙ eq-eqb t.number 0 h));
                places = λ h. absurd (false≢true (sym g ∙ eq-eqb t.number 0 h));
                first = λ h. absurd (false≢true (sym g ∙ eq-eqb t.number 0 h));
                counts = λ h. absurd (false≢true (sym g ∙ eq-eqb t.number 0 h));
              })
