-- What a tally without refusal gives, and what one step keeps.
use mathlib.Core.Path.{◌≡◌, refl, sym, subst, ◌∙◌}
use mathlib.Core.Bool.{Bool, true, false, cond, ◌&&◌}
use mathlib.Core.List.{List}
use Prim.Native.Nat.{ℕ, suc, ◌+◌, ◌*◌, ◌-◌, ◌/◌, ◌≤◌, ◌<◌}
use native.Mathlib.Omega.{arith}
use lib.Dec.{eqb, ltb}
use lib.ListN.{length}
use borrow.Author.Tests.{eqb-true, ltb-true}
use Rattle.modular.proofs.Words.{left_true, right_true}
use Rattle.parameters.specs.declared.ParameterSet.{ParameterSet}
use Rattle.merkle.specs.Levels.{Shape}
use Rattle.merkle.specs.Marks.{is_marked, rewrite_marked}
use Rattle.merkle.specs.Numbering.{write_node}
use Rattle.merkle.specs.Replacement.{Counted}
use Rattle.repeats.specs.Maps.{window, note}
use Rattle.trees.specs.Shapes.{counted}
use Rattle.trees.specs.SetTrees.{tree_of_set}
use Rattle.marks.specs.Marks.{mark}
use Rattle.records.specs.declared.record.Record.{Record}
use Rattle.records.specs.declared.tally.Tally.{Tally}
use Rattle.records.specs.Records.{leaf_of}
use Rattle.records.specs.Tests.{Pass, pass, Going, one_more, tested, test_of, is_clear, found, note_of}
use Rattle.pushes.specs.Passes.{may_write, may_rise, wrote, mark_leaf, mark_of, rise_of, step_of}

-- ---- a write that is allowed

pub rise_unrefused : (t : Tally) → may_rise t ≡ true → t.number ≡ 0
unfolding may_rise is_clear
rise_unrefused t e = eqb-true t.number 0 (left_true (eqb t.number 0) (t.placed && t.words) (left_true (is_clear t) t.distinct e))

pub may_unrefused : (t : Tally) (q : ℕ) → may_write t q ≡ true → t.number ≡ 0
unfolding may_write is_clear
may_unrefused t q e = eqb-true t.number 0 (left_true (eqb t.number 0) (t.placed && t.words) (left_true (is_clear t) (t.distinct && ltb q t.places) e))

pub may_inside : (t : Tally) (q : ℕ) → may_write t q ≡ true → q < t.places
unfolding may_write
may_inside t q e = ltb-true q t.places (right_true t.distinct (ltb q t.places) (right_true (is_clear t) (t.distinct && ltb q t.places) e))

-- ---- a step

-- what a step keeps of a tally: the refusal's number, the places, and room for the places that are kept and for the count
pub record Follows (t t' : Tally) : Type 0 where
  pub number : t'.number ≡ t.number
  pub places : t'.places ≡ t.places
  pub few : t'.few ≡ t.few
  pub kept : t'.kept ≤ t.kept + 1
  pub before : t'.before ≡ t.before
  pub under : t'.under ≡ t.under
  pub made : t'.made ≤ t.made + 32

same : (t : Tally) → Follows t t
same t = record { number = refl; places = refl; few = refl; kept = omega arith; before = refl; under = refl; made = omega arith }

test_follows : (s : ParameterSet) (r : Record) (u : Pass) → Follows u.tally (test_of s r u).tally
unfolding test_of one_more
test_follows s r u = go (eqb u.tally.number 0) refl
  where
    at_most : (few : Bool) (k : ℕ) → one_more few k ≤ k + 1
    at_most true k = omega arith
    at_most false k = omega arith

    go : (b : Bool) → eqb u.tally.number 0 ≡ b → Follows u.tally (cond b (tested s r u.tally u.buffer) u).tally
    go true e = record {
      number = sym (eqb-true u.tally.number 0 e);
      places = refl;
      few = refl;
      kept = at_most u.tally.few u.tally.kept;
      before = refl;
      under = refl;
      made = omega arith;
    }
    go false e = same u.tally

-- the leaves and the marks leave the tally
pub mark_tally : (s : ParameterSet) (r : Record) (u : Pass) → (mark_of s r u).tally ≡ u.tally
unfolding mark_of
mark_tally s r u = go (may_rise u.tally)
  where
    go : (b : Bool) → (cond b (pass u.tally (mark_leaf s u.tally.places r.place (leaf_of s.node_size r) u.buffer)) u).tally ≡ u.tally
    go true = refl
    go false = refl

mark_follows : (s : ParameterSet) (r : Record) (u : Pass) → Follows u.tally (mark_of s r u).tally
mark_follows s r u = subst (Follows u.tally) (sym (mark_tally s r u)) (same u.tally)

-- a rewriting counts one, or none
pub one_at_most : (S : Shape) (w n : ℕ) (c : Counted) → (rewrite_marked S mark w n c).made ≤ c.made + 1
unfolding rewrite_marked write_node
one_at_most S w n c = go (is_marked S mark w n c.store)
  where
    go : (b : Bool) → (cond b (write_node S w n c) c).made ≤ c.made + 1
    go true = omega arith
    go false = omega arith

rise_follows : (s : ParameterSet) (q : ℕ) (u : Pass) → Follows u.tally (rise_of s q u).tally
unfolding rise_of
rise_follows s q u = go (may_write u.tally q)
  where
    done : Counted
    done = rewrite_marked (tree_of_set s) mark u.tally.places (u.tally.before + q / u.tally.under) (counted u.buffer u.tally.made)

    go : (b : Bool) → Follows u.tally (cond b (wrote u.tally done) u).tally
    go true =
        let few = one_at_most (tree_of_set s) u.tally.places (u.tally.before + q / u.tally.under) (counted u.buffer u.tally.made) in
        record { number = refl; places = refl; few = refl; kept = omega arith; before = refl; under = refl; made = omega arith }
    go false = same u.tally

note_follows : (base q : ℕ) (u : Pass) → Follows u.tally (note_of base q u).tally
unfolding note_of
note_follows base q u = go (eqb u.tally.number 0 && u.tally.distinct)
  where
    go : (b : Bool) → Follows u.tally (cond b (found u.tally (note base q u.buffer)) u).tally
    go true = record { number = refl; places = refl; few = refl; kept = omega arith; before = refl; under = refl; made = omega arith }
    go false = same u.tally

step_follows : (s : ParameterSet) (phase : ℕ) (r : Record) (u : Pass) → Follows u.tally (step_of s phase r u).tally
unfolding step_of
step_follows s phase r u = go (eqb phase 0) (eqb phase 1) (eqb phase 2)
  where
    go : (a b c : Bool)
        → Follows u.tally (cond a (test_of s r u) (cond b (mark_of s r u) (cond c (rise_of s r.place u) (note_of ((phase - 3) * window) r.place u)))).tally
    go true b c = test_follows s r u
    go false true c = mark_follows s r u
    go false false true = rise_follows s r.place u
    go false false false = note_follows ((phase - 3) * window) r.place u

-- after a step a pass goes on, with a record less before it
pub goes_on : (s : ParameterSet) (phase : ℕ) (r : Record) (u : Pass) (buffer : List ℕ) (n : ℕ) → length buffer ≡ length u.buffer
    → Going s phase u.buffer u.tally (suc n) → Going s phase buffer (step_of s phase r u).tally n
goes_on s phase r u buffer n e G =
    let F = step_follows s phase r u in
    record {
      accepted = λ z. G.accepted (sym F.number ∙ z);
      whole = λ z. e ∙ G.whole (sym F.number ∙ z);
      places = λ z. F.places ∙ G.places (sym F.number ∙ z);
      keeps = λ z f. omega (arith, F.kept, G.keeps z (sym F.few ∙ f));
      counts = omega (arith, F.made, G.counts);
      rank = λ z f. rw (F.before, F.under) (G.rank z (sym F.number ∙ f));
      low = G.low;
    }
