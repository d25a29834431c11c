-- The first pass: what the tally shows after it of the places and the leaves.
use mathlib.Core.Path.{◌≡◌, refl, sym, ap, ap₂, subst, ◌∙◌}
use mathlib.Core.Bool.{Bool, true, false, cond, not, ◌&&◌, ◌||◌, and-true, and_assoc}
use mathlib.Core.List.{List, [], ◌∷◌, ◌++◌, append_assoc, append-nil}
use Prim.Native.Nat.{ℕ, ◌+◌, ◌≤◌, ◌<◌}
use native.Mathlib.Numerals.{add-one}
use native.Mathlib.Omega.{arith}
use lib.Dec.{ltb, leb}
use lib.ListN.{length, take, set, length-set, length-append}
use lib.Seq.{take-suc-set}
use borrow.Author.Tests.{eq-eqb, leb-true, ltb-true, lt-ltb}
use Rattle.modular.specs.Arithmetic.{all_words}
use Rattle.modular.proofs.Words.{left_true, right_true, words_both}
use Rattle.parameters.specs.declared.ParameterSet.{ParameterSet}
use Rattle.parameters.specs.ParameterSet.{prime_of}
use Rattle.repeats.specs.Repeats.{member, repeats}
use Rattle.repeats.proofs.Members.{member_last, repeats_last}
use Rattle.records.specs.declared.record.Record.{Record}
use Rattle.records.specs.declared.tally.Tally.{Tally}
use Rattle.records.specs.Records.{leaf_of, places_of, places_below, used_words}
use Rattle.records.specs.Tests.{Pass, pass, keepable, above_of, fresh_of, keeping, one_more, rises, tested, test_of}
use Rattle.pushes.specs.Passes.{step_of, each_of}

-- ---- what does not hang on the places

-- a record tested
pub test_is : (s : ParameterSet) (r : Record) (t : Tally) (seen : List ℕ) → t.number ≡ 0 → step_of s 0 r (pass t seen) ≡ tested s r t seen
unfolding step_of test_of
test_is s r t seen e = rw (eq-eqb t.number 0 e)

-- of a tally t, after the records rs were tested
pub record Tested (s : ParameterSet) (rs : List Record) (t t' : Tally) : Type 0 where
  pub number : t'.number ≡ 0
  pub places : t'.places ≡ t.places
  pub placed : t'.placed ≡ (t.placed && places_below t.places rs)
  pub words : t'.words ≡ (t.words && all_words (prime_of s) (used_words s.node_size rs))
  pub few : t'.few ≡ t.few
  pub levels : t'.levels ≡ t.levels
  pub before : t'.before ≡ t.before
  pub under : t'.under ≡ t.under
  pub made : t'.made ≡ t.made

pub tested_all : (s : ParameterSet) (rs : List Record) (t : Tally) (seen : List ℕ) → t.number ≡ 0 → Tested s rs t (each_of s 0 rs (pass t seen)).tally
unfolding each_of places_below used_words all_words
tested_all s [] t seen e = record { number = e; places = refl; placed = sym (and-true t.placed); words = sym (and-true t.words); few = refl; levels = refl; before = refl; under = refl; made = refl }
tested_all s (r ∷ rs) t seen e =
    subst (λ (u : Pass). Tested s (r ∷ rs) t (each_of s 0 rs u).tally) (sym (test_is s r t seen e)) (more (tested_all s rs (tested s r t seen).tally (tested s r t seen).buffer refl))
  where
    u : Pass
    u = tested s r t seen

    more : Tested s rs u.tally (each_of s 0 rs u).tally → Tested s (r ∷ rs) t (each_of s 0 rs u).tally
    more rest = record {
      number = rest.number;
      places = rest.places;
      placed = rest.placed ∙ and_assoc t.placed (ltb r.place t.places) (places_below t.places rs);
      words =
          rest.words
          ∙ and_assoc t.words (all_words (prime_of s) (leaf_of s.node_size r)) (all_words (prime_of s) (used_words s.node_size rs))
          ∙ ap (λ (b : Bool). t.words && b) (sym (words_both (prime_of s) (leaf_of s.node_size r) (used_words s.node_size rs)));
      few = rest.few;
      levels = rest.levels;
      before = rest.before;
      under = rest.under;
      made = rest.made;
    }

-- ---- the places, where all are below n

-- After places ps: those that rise are below the tally's next, and so all different; of few, all are kept and it is known whether one stands
-- twice; of more, nothing was found.
pub record Seen (ps : List ℕ) (t : Tally) (seen : List ℕ) : Type 0 where
  pub room : length seen ≡ keepable
  pub below : t.rising ≡ true → (x : ℕ) → member x ps ≡ true → x < t.above
  pub risen : t.rising ≡ true → repeats ps ≡ false
  pub kept : t.few ≡ true → take t.kept seen ≡ ps
  pub count : t.few ≡ true → t.kept ≡ length ps
  pub compared : t.few ≡ true → t.distinct ≡ not (repeats ps)
  pub left : t.few ≡ false → t.distinct ≡ true

module _ (s : ParameterSet) (ps : List ℕ) (r : Record) (t : Tally) (seen : List ℕ) (S : Seen ps t seen) (inside : r.place < t.places)
    (more : t.few ≡ true → length ps < keepable) where
  abbrev q : ℕ
  q = r.place

  abbrev next : Pass
  next = tested s r t seen

  -- a place that rises is none of those before it
  rises_new : rises t q ≡ true → member q ps ≡ false
  rises_new e = go (member q ps) refl
    where
      go : (b : Bool) → member q ps ≡ b → member q ps ≡ false
      go true f =
          absurd (omega (arith, S.below (left_true t.rising (leb t.above q) e) q f, leb-true t.above q (right_true t.rising (leb t.above q) e)))
      go false f = f

  above_is : above_of t.places q ≡ q + 1
  unfolding above_of
  above_is = rw (lt-ltb q t.places inside)

  below_next : rises t q ≡ true → (x : ℕ) → member x (ps ++ (q ∷ [])) ≡ true → x < q + 1
  below_next e x m = go (member x ps) refl
    where
      go : (b : Bool) → member x ps ≡ b → x < q + 1
      go true f = omega (arith, S.below (left_true t.rising (leb t.above q) e) x f, leb-true t.above q (right_true t.rising (leb t.above q) e))
      go false f = omega (arith, member_last x ps q f m)

  risen_next : rises t q ≡ true → repeats (ps ++ (q ∷ [])) ≡ false
  risen_next e = repeats_last ps q ∙ ap₂ (λ (a b : Bool). a || b) (S.risen (left_true t.rising (leb t.above q) e)) (rises_new e)

  module _ (few : t.few ≡ true) where
    there : t.kept < length seen
    there = omega (arith, S.count few, more few, S.room)

    kept_next : take (one_more t.few t.kept) (keeping t.few t.kept q seen) ≡ ps ++ (q ∷ [])
    unfolding one_more keeping
    kept_next =
        ap (λ (b : Bool). take (cond b (t.kept + 1) t.kept) (cond b (set seen t.kept q) seen)) few
        ∙ ap (λ (n : ℕ). take n (set seen t.kept q)) (add-one t.kept) ∙ take-suc-set seen t.kept q there
        ∙ ap (λ (xs : List ℕ). xs ++ (q ∷ [])) (S.kept few)

    count_next : one_more t.few t.kept ≡ length (ps ++ (q ∷ []))
    unfolding one_more
    count_next = ap (λ (b : Bool). cond b (t.kept + 1) t.kept) few ∙ ap (λ (n : ℕ). n + 1) (S.count few) ∙ sym (length-append ps (q ∷ []))

    fresh_is : fresh_of t.few t.kept (rises t q) q seen ≡ not (member q ps)
    unfolding fresh_of
    fresh_is =
        ap₂ (λ (b : Bool) (xs : List ℕ). not b || (rises t q || not (member q xs))) few (S.kept few) ∙ go (rises t q) refl
      where
        go : (b : Bool) → rises t q ≡ b → (false || (b || not (member q ps))) ≡ not (member q ps)
        go true e = sym (ap not (rises_new e))
        go false e = refl

    compared_next : (t.distinct && fresh_of t.few t.kept (rises t q) q seen) ≡ not (repeats (ps ++ (q ∷ [])))
    compared_next =
        ap₂ (λ (a b : Bool). a && b) (S.compared few) fresh_is ∙ neither (repeats ps) (member q ps) ∙ ap not (sym (repeats_last ps q))
      where
        neither : (a b : Bool) → (not a && not b) ≡ not (a || b)
        neither true b = refl
        neither false b = refl

  left_next : t.few ≡ false → (t.distinct && fresh_of t.few t.kept (rises t q) q seen) ≡ true
  unfolding fresh_of
  left_next e = ap₂ (λ (a b : Bool). a && (not b || (rises t q || not (member q (take t.kept seen))))) (S.left e) e

  room_next : length (keeping t.few t.kept q seen) ≡ keepable
  unfolding keeping
  room_next = go t.few
    where
      go : (b : Bool) → length (cond b (set seen t.kept q) seen) ≡ keepable
      go true = length-set seen t.kept q ∙ S.room
      go false = S.room

  pub seen_next : Seen (ps ++ (q ∷ [])) next.tally next.buffer
  seen_next = record {
    room = room_next;
    below = λ e x m. subst (λ (n : ℕ). x < n) (sym above_is) (below_next e x m);
    risen = risen_next;
    kept = kept_next;
    count = count_next;
    compared = compared_next;
    left = left_next;
  }

-- the whole pass
pub seen_all : (s : ParameterSet) (rs : List Record) (ps : List ℕ) (t : Tally) (seen : List ℕ) → t.number ≡ 0 → Seen ps t seen → places_below t.places rs ≡ true
    → (t.few ≡ true → length ps + length rs ≤ keepable) → Seen (ps ++ places_of rs) (each_of s 0 rs (pass t seen)).tally (each_of s 0 rs (pass t seen)).buffer
unfolding each_of places_of places_below
seen_all s [] ps t seen e S b m = subst (λ (xs : List ℕ). Seen xs t seen) (sym (append-nil ps)) S
seen_all s (r ∷ rs) ps t seen e S b m =
    let u : Pass = tested s r t seen in
    let inside = ltb-true r.place t.places (left_true (ltb r.place t.places) (places_below t.places rs) b) in
    let N = seen_next s ps r t seen S inside (λ f. omega (arith, m f)) in
    let rest = seen_all s rs (ps ++ (r.place ∷ [])) u.tally u.buffer refl N (right_true (ltb r.place t.places) (places_below t.places rs) b)
    (λ f. omega (arith, m f, length-append ps (r.place ∷ []))) in
    subst (λ (v : Pass). Seen (ps ++ (r.place ∷ places_of rs)) (each_of s 0 rs v).tally (each_of s 0 rs v).buffer) (sym (test_is s r t seen e))
    (subst (λ (xs : List ℕ). Seen xs (each_of s 0 rs u).tally (each_of s 0 rs u).buffer) (append_assoc ps (r.place ∷ []) (places_of rs)) rest)
