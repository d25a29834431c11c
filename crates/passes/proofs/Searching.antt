-- The search: after the tests and the windows together, the tally shows whether a place stands twice.
use mathlib.Core.Path.{◌≡◌, refl, sym, ap, ap₂, subst, ◌∙◌}
use mathlib.Core.Bool.{Bool, true, false, cond, not, ◌&&◌, false≢true, true≢false, and-false}
use mathlib.Core.List.{List, [], ◌∷◌, ◌++◌, append_assoc, append-nil}
use Prim.Native.Nat.{ℕ, zero, suc, ◌+◌, ◌*◌, ◌-◌, ◌^◌, ◌≤◌, ◌<◌}
use native.Mathlib.Decide.{dec_lt}
use native.Mathlib.Numerals.{add-one}
use native.Mathlib.Omega.{arith}
use lib.Dec.{eqb, ltb}
use lib.ListN.{replicate}
use borrow.Author.Tests.{eq-eqb, ne_eqb, eqb-true, ltb-true, le-ltb}
use Rattle.modular.proofs.Words.{left_true, right_true}
use Rattle.parameters.specs.declared.ParameterSet.{ParameterSet}
use Rattle.repeats.specs.Repeats.{repeats}
use Rattle.repeats.specs.Maps.{Noting, window, map_words, note}
use Rattle.repeats.proofs.Members.{repeats_more, times, once_all}
use Rattle.repeats.proofs.Notes.{Noted, noted_none, noted_once, noted_again, noted_new}
use Rattle.trees.specs.SetTrees.{store_words}
use Rattle.trees.proofs.SetTrees as tree_of
use Rattle.records.specs.declared.record.Record.{Record}
use Rattle.records.specs.declared.tally.Tally.{Tally}
use Rattle.records.specs.Records.{places_of, places_below}
use Rattle.records.specs.Tests.{Pass, pass, keepable, is_clear, finding, found, note_of, wanted, windows_for, search_end, room_of, Going}
use Rattle.pushes.specs.Passes.{step_of, each_of, windows_of, search_of}
use Rattle.passes.proofs.Tests.{Seen}

abbrev zeros : List ℕ
zeros = replicate map_words 0

-- What is found of places ps: one of them, and then one stands twice; or none, and then none of those that were looked for stands twice.
record Found (ps : List ℕ) (LookedFor : ℕ → Type 0) (t u : Tally) : Type 0 where
  pub distinct : Bool
  pub is : u ≡ finding t distinct
  pub sound : distinct ≡ false → repeats ps ≡ true
  pub complete : distinct ≡ true → (q : ℕ) → LookedFor q → times q ps ≤ 1

-- ---- one window

module _ (s : ParameterSet) (w : ℕ) where
  step_notes : (r : Record) (u : Pass) → step_of s (3 + w) r u ≡ note_of (w * window) r.place u
  unfolding step_of
  step_notes r u =
      let e : 3 + w - 3 ≡ w = omega arith in
      rw (ne_eqb (3 + w) 0 (λ z. absurd (omega arith)), ne_eqb (3 + w) 1 (λ z. absurd (omega arith)), ne_eqb (3 + w) 2 (λ z. absurd (omega arith)), e)

  -- what was found stays
  found_stays : (rs : List Record) (t : Tally) (map : List ℕ) → t.distinct ≡ false → each_of s (3 + w) rs (pass t map) ≡ pass t map
  unfolding each_of note_of
  found_stays [] t map e = refl
  found_stays (r ∷ rs) t map e = ap (each_of s (3 + w) rs) (step_notes r (pass t map) ∙ stays) ∙ found_stays rs t map e
    where
      stays : note_of (w * window) r.place (pass t map) ≡ pass t map
      stays = ap (λ (b : Bool). cond b (found t (note (w * window) r.place map)) (pass t map)) (ap (λ (b : Bool). eqb t.number 0 && b) e ∙ and-false (eqb t.number 0))

  -- its pass looks for the places that the map has a bit for
  abbrev Passed : List ℕ → Tally → Tally → Type 0
  Passed ps t u = Found ps (λ q. (w * window ≤ q) × (q - w * window < window)) t u

  window_pass : (rs : List Record) (ps : List ℕ) (t : Tally) (map : List ℕ) → t.number ≡ 0 → t.distinct ≡ true → Noted (w * window) ps map
      → Passed (ps ++ places_of rs) t (each_of s (3 + w) rs (pass t map)).tally
  unfolding each_of places_of note_of
  window_pass [] ps t map e f N = record {
    distinct = true;
    is = λ i. finding t (f i);
    sound = λ g. absurd (true≢false g);
    complete = λ g q b. subst (λ (xs : List ℕ). times q xs ≤ 1) (sym (append-nil ps)) (noted_once (w * window) ps map N q b.0 b.1);
  }
  window_pass (r ∷ rs) ps t map e f N = go (note (w * window) q map).again refl (window_pass rs)
    where
      q : ℕ
      q = r.place

      -- the step, by whether the place was noted before
      step_is : (b : Bool) → (note (w * window) q map).again ≡ b → step_of s (3 + w) r (pass t map) ≡ pass (finding t (not b)) (note (w * window) q map).map
      step_is b g =
          step_notes r (pass t map)
          ∙ ap (λ (c : Bool). cond c (found t (note (w * window) q map)) (pass t map)) (ap (λ (c : Bool). c && t.distinct) (eq-eqb t.number 0 e) ∙ f)
          ∙ ap (λ (c : Bool). pass (finding t (not c)) (note (w * window) q map).map) g

      on : (u : Tally) → (each_of s (3 + w) rs (step_of s (3 + w) r (pass t map))).tally ≡ u → Passed ((ps ++ (q ∷ [])) ++ places_of rs) t u
          → Passed (ps ++ (q ∷ places_of rs)) t (each_of s (3 + w) rs (step_of s (3 + w) r (pass t map))).tally
      on u g P = subst (λ (v : Tally). Passed (ps ++ (q ∷ places_of rs)) t v) (sym g) (subst (λ (xs : List ℕ). Passed xs t u) (append_assoc ps (q ∷ []) (places_of rs)) P)

      go : (b : Bool) → (note (w * window) q map).again ≡ b
          → ((ps : List ℕ) (t : Tally) (map : List ℕ) → t.number ≡ 0 → t.distinct ≡ true → Noted (w * window) ps map → Passed (ps ++ places_of rs) t (each_of s (3 + w) rs (pass t map)).tally)
          → Passed (ps ++ (q ∷ places_of rs)) t (each_of s (3 + w) rs (step_of s (3 + w) r (pass t map))).tally
      go true g ih =
          on (finding t false)
          (ap (λ (u : Pass). (each_of s (3 + w) rs u).tally) (step_is true g) ∙ ap (λ (u : Pass). u.tally) (found_stays rs (finding t false) (note (w * window) q map).map refl))
          (record {
            distinct = false;
            is = refl;
            sound = λ h. repeats_more (ps ++ (q ∷ [])) (places_of rs) (noted_again (w * window) ps q map N g);
            complete = λ h. absurd (false≢true h);
          })
      go false g ih =
          let t' : Tally = finding t true in
          let map' : List ℕ = (note (w * window) q map).map in
          let P = ih (ps ++ (q ∷ [])) t' map' e refl (noted_new (w * window) ps q map N g) in
          on (each_of s (3 + w) rs (pass t' map')).tally
          (ap (λ (u : Pass). (each_of s (3 + w) rs u).tally) (step_is false g))
          (record { distinct = P.distinct; is = P.is; sound = P.sound; complete = P.complete })

-- ---- all windows

-- the first n of them
abbrev FirstFound : List Record → ℕ → Tally → Tally → Type 0
FirstFound rs n t u = Found (places_of rs) (λ q. q < n * window) t u

module _ (s : ParameterSet) (rs : List Record) (t : Tally) (unrefused : t.number ≡ 0) (open-yet : t.distinct ≡ true) where
  windows_find : (n : ℕ) → FirstFound rs n t (windows_of s rs n t)
  unfolding windows_of
  windows_find zero = record { distinct = true; is = λ i. finding t (open-yet i); sound = λ e. absurd (true≢false e); complete = λ e q b. absurd (omega arith) }
  windows_find (suc n) =
      let F = windows_find n in
      go F.distinct F.is F.sound F.complete
    where
      go : (d : Bool) → windows_of s rs n t ≡ finding t d → (d ≡ false → repeats (places_of rs) ≡ true) → (d ≡ true → (q : ℕ) → q < n * window → times q (places_of rs) ≤ 1)
          → FirstFound rs (suc n) t (each_of s (3 + n) rs (pass (windows_of s rs n t) zeros)).tally
      go false e sound complete = record {
        distinct = false;
        is = ap (λ (u : Tally). (each_of s (3 + n) rs (pass u zeros)).tally) e ∙ ap (λ (u : Pass). u.tally) (found_stays s n rs (finding t false) zeros refl);
        sound = sound;
        complete = λ f. absurd (false≢true f);
      }
      go true e sound complete =
          let P = window_pass s n rs [] (finding t true) zeros unrefused refl (noted_none (n * window)) in
          record {
            distinct = P.distinct;
            is = ap (λ (u : Tally). (each_of s (3 + n) rs (pass u zeros)).tally) e ∙ P.is;
            sound = P.sound;
            complete = λ f q b. by_window f q b (P.complete f) (dec_lt q (n * window));
          }
        where
          by_window : {d : Bool} → d ≡ true → (q : ℕ) → q < suc n * window → ((q : ℕ) → (n * window ≤ q) × (q - n * window < window) → times q (places_of rs) ≤ 1)
              → Dec (q < n * window) → times q (places_of rs) ≤ 1
          by_window f q b here (yes c) = complete refl q c
          by_window f q b here (no c) = here q (omega arith, omega (arith, b))

-- a place that is not below n stands nowhere
below_times : (n : ℕ) (rs : List Record) → places_below n rs ≡ true → (q : ℕ) → n ≤ q → times q (places_of rs) ≡ 0
unfolding places_below places_of times
below_times n [] b q h = refl
below_times n (r ∷ rs) b q h =
    let l = ltb-true r.place n (left_true (ltb r.place n) (places_below n rs) b) in
    ap (λ (c : Bool). cond c (suc (times q (places_of rs))) (times q (places_of rs))) (ne_eqb q r.place (λ e. absurd (omega (arith, l, h, e))))
    ∙ below_times n rs (right_true (ltb r.place n) (places_below n rs) b) q h

-- with windows for every place, what they find is whether a place stands twice
found_all : (rs : List Record) (n m : ℕ) (t u : Tally) → FirstFound rs m t u → places_below n rs ≡ true → n ≤ m * window → u ≡ finding t (not (repeats (places_of rs)))
found_all rs n m t u F b h = F.is ∙ ap (finding t) (go F.distinct F.sound F.complete)
  where
    go : (d : Bool) → (d ≡ false → repeats (places_of rs) ≡ true) → (d ≡ true → (q : ℕ) → q < m * window → times q (places_of rs) ≤ 1) → d ≡ not (repeats (places_of rs))
    go false sound complete = sym (ap not (sound refl))
    go true sound complete = sym (ap not (once_all (places_of rs) (λ q. once q (dec_lt q (m * window)))))
      where
        once : (q : ℕ) → Dec (q < m * window) → times q (places_of rs) ≤ 1
        once q (yes c) = complete refl q c
        once q (no c) = omega (arith, below_times n rs b q (omega (arith, h)))

-- ---- the search

module _ (s : ParameterSet) (rs : List Record) (t : Tally) where
  pub search_none : wanted t ≡ false → search_of s rs t ≡ t
  unfolding search_of search_end windows_of
  search_none e = ap (λ (b : Bool). windows_of s rs (cond b (3 + windows_for t.places) 3 - 3) t) e

  search_all : wanted t ≡ true → search_of s rs t ≡ windows_of s rs (windows_for t.places) t
  unfolding search_of search_end
  search_all e =
      let f : 3 + windows_for t.places - 3 ≡ windows_for t.places = omega arith in
      ap (λ (b : Bool). windows_of s rs (cond b (3 + windows_for t.places) 3 - 3) t) e ∙ ap (λ (n : ℕ). windows_of s rs n t) f

  -- After the tests it is known whether a place stands twice: the places rose, or they were compared, or they are searched.
  pub search_finds : (seen : List ℕ) → t.number ≡ 0 → t.placed ≡ true → t.words ≡ true → places_below t.places rs ≡ true → Seen (places_of rs) t seen
      → search_of s rs t ≡ finding t (not (repeats (places_of rs)))
  unfolding wanted is_clear
  search_finds seen z p v b S = go t.rising t.few refl refl
    where
      wanted_is : wanted t ≡ (not t.rising && not t.few)
      wanted_is = rw (eq-eqb t.number 0 z, p, v)

      known : wanted t ≡ false → t.distinct ≡ not (repeats (places_of rs)) → search_of s rs t ≡ finding t (not (repeats (places_of rs)))
      known e f = search_none e ∙ (λ i. finding t (f i))

      go : (up few : Bool) → t.rising ≡ up → t.few ≡ few → search_of s rs t ≡ finding t (not (repeats (places_of rs)))
      go true true f g = known (wanted_is ∙ ap (λ (c : Bool). not c && not t.few) f) (S.compared g)
      go true false f g = known (wanted_is ∙ ap (λ (c : Bool). not c && not t.few) f) (S.left g ∙ sym (ap not (S.risen f)))
      go false true f g = known (wanted_is ∙ ap₂ (λ (c d : Bool). not c && not d) f g) (S.compared g)
      go false false f g =
          search_all (wanted_is ∙ ap₂ (λ (c d : Bool). not c && not d) f g)
          ∙ found_all rs t.places (windows_for t.places) t (windows_of s rs (windows_for t.places) t) (windows_find s rs t z (S.left g) (windows_for t.places)) b (omega arith)

-- ---- what its passes presume

-- a pass over a window changes what was found, and nothing more
each_finds : (s : ParameterSet) (w : ℕ) (rs : List Record) (t : Tally) (map : List ℕ) → (d : Bool) × ((each_of s (3 + w) rs (pass t map)).tally ≡ finding t d)
unfolding each_of note_of
each_finds s w [] t map = (t.distinct, refl)
each_finds s w (r ∷ rs) t map = go (eqb t.number 0 && t.distinct) refl (each_finds s w rs)
  where
    n : Noting
    n = note (w * window) r.place map

    go : (b : Bool) → (eqb t.number 0 && t.distinct) ≡ b → ((t : Tally) (map : List ℕ) → (d : Bool) × ((each_of s (3 + w) rs (pass t map)).tally ≡ finding t d))
        → (d : Bool) × ((each_of s (3 + w) rs (step_of s (3 + w) r (pass t map))).tally ≡ finding t d)
    go true e ih =
        let rest = ih (finding t (not n.again)) n.map in
        (rest.0, ap (λ (u : Pass). (each_of s (3 + w) rs u).tally) (step_notes s w r (pass t map) ∙ ap (λ (b : Bool). cond b (found t n) (pass t map)) e) ∙ rest.1)
    go false e ih =
        let rest = ih t map in
        (rest.0, ap (λ (u : Pass). (each_of s (3 + w) rs u).tally) (step_notes s w r (pass t map) ∙ ap (λ (b : Bool). cond b (found t n) (pass t map)) e) ∙ rest.1)

windows_find_only : (s : ParameterSet) (rs : List Record) (n : ℕ) (t : Tally) → (d : Bool) × (windows_of s rs n t ≡ finding t d)
unfolding windows_of
windows_find_only s rs zero t = (t.distinct, refl)
windows_find_only s rs (suc n) t =
    let before = windows_find_only s rs n t in
    let one = each_finds s n rs (windows_of s rs n t) zeros in
    (one.0, one.1 ∙ ap (λ (u : Tally). finding u one.0) before.1)

pub search_only : (s : ParameterSet) (rs : List Record) (t : Tally) → (d : Bool) × (search_of s rs t ≡ finding t d)
unfolding search_of
search_only s rs t = windows_find_only s rs (search_end t - 3) t

wanted_unrefused : (t : Tally) → wanted t ≡ true → t.number ≡ 0
unfolding wanted is_clear
wanted_unrefused t e = eqb-true t.number 0 (left_true (eqb t.number 0) (t.placed && t.words) (left_true (is_clear t) (not t.rising && not t.few) e))

-- in the course of a search, after w windows
pub record Reached (s : ParameterSet) (rs : List Record) (t₀ : Tally) (w : ℕ) (t : Tally) : Type 0 where
  pub inside : 3 + w ≤ search_end t₀
  pub is : t ≡ windows_of s rs w t₀

module _ (s : ParameterSet) (rs : List Record) (t₀ : Tally) where
  end_low : (t₀.number ≡ 0 → t₀.places ≤ 2 ^ 32) → (3 ≤ search_end t₀) × (search_end t₀ ≤ 4099)
  unfolding search_end
  end_low h = go (wanted t₀) refl
    where
      go : (b : Bool) → wanted t₀ ≡ b → (3 ≤ cond b (3 + windows_for t₀.places) 3) × (cond b (3 + windows_for t₀.places) 3 ≤ 4099)
      go true e = (omega arith, omega (arith, h (wanted_unrefused t₀ e)))
      go false e = (omega arith, omega arith)

  module _ (n : ℕ) (G : Going s 3 zeros t₀ n) where
    ends : (3 ≤ search_end t₀) × (search_end t₀ ≤ 4099)
    ends = end_low (λ z. subst (λ (m : ℕ). m ≤ 2 ^ 32) (sym (G.places z)) (tree_of.valid_numbers s (G.accepted z)).few)

    pub search_begins : Reached s rs t₀ 0 t₀
    unfolding windows_of
    search_begins = record { inside = ends.0; is = refl }

    module _ (w : ℕ) (t : Tally) (reached : Reached s rs t₀ w t) where
      -- what the next pass asks, and what it leaves
      pub search_asks : w < search_end t₀ - 3 → Going s (3 + w) zeros t n
      unfolding room_of
      search_asks l =
          let f = windows_find_only s rs w t₀ in
          subst (λ (u : Tally). Going s (3 + w) zeros u n) (sym (reached.is ∙ f.1))
          (record {
            accepted = G.accepted;
            whole = λ z. G.whole z ∙ sym (ap₂ (λ (a b : Bool). cond a keepable (cond b (store_words s) map_words)) (ne_eqb (3 + w) 0 (λ e. absurd (omega arith))) (le-ltb (3 + w) 3 (omega arith)));
            places = G.places;
            keeps = λ z. absurd (omega arith);
            counts = G.counts;
            rank = λ z. absurd (omega arith);
            low = omega (arith, l, ends.1);
          })

      pub search_next : w < search_end t₀ - 3 → (t' : Tally) → t' ≡ (each_of s (3 + w) rs (pass t zeros)).tally → Reached s rs t₀ (w + 1) t'
      unfolding windows_of
      search_next l t' e =
          record {
            inside = omega (arith, l);
            is =
                e ∙ ap (λ (u : Tally). (each_of s (3 + w) rs (pass u zeros)).tally) reached.is
                ∙ ap (λ (m : ℕ). windows_of s rs m t₀) (sym (add-one w));
          }

      pub search_ends : search_end t₀ - 3 ≤ w → t ≡ search_of s rs t₀
      unfolding search_of
      search_ends l =
          let e : w ≡ search_end t₀ - 3 = omega (arith, l, reached.inside) in
          reached.is ∙ ap (λ (m : ℕ). windows_of s rs m t₀) e
