-- What the loop over the records keeps: the passes over what is left give what the pass over all gives.
use mathlib.Core.Path.{◌≡◌, refl, sym, ap, subst, ◌∙◌}
use mathlib.Core.Bool.{true, false}
use mathlib.Core.List.{List, [], ◌∷◌}
use Prim.Native.Nat.{ℕ, zero, suc, ◌+◌, ◌*◌, ◌-◌, ◌/◌, ◌≤◌, ◌<◌}
use native.Mathlib.Nat.{sub-zero}
use native.Mathlib.Numerals.{add-one}
use native.Mathlib.Omega.{arith}
use lib.ListN.{length, get_or, take, drop, drop_of_length-le}
use lib.Seq.{drop-cons, get_or-drop, drop-drop}
use Rattle.std.specs.Simd.{first_chunks}
use Rattle.parameters.specs.declared.ParameterSet.{ParameterSet}
use Rattle.records.specs.declared.record.Record.{Record}
use Rattle.records.specs.declared.tally.Tally.{Tally}
use Rattle.records.specs.Listed.{record_at, listed}
use Rattle.records.specs.Tests.{Pass, pass, Going}
use Rattle.pushes.specs.Passes.{may_rise, mark_leaf, mark_of, step_of, each_of}
use Rattle.records.proofs.Listed.{words_part, six_at, words_at, listed_count, listed_at}
use Rattle.pushes.proofs.Records.{mark_tally, goes_on}

-- after i records of rs, from the tally t₀ and the buffer xs
pub record Reached (s : ParameterSet) (phase : ℕ) (rs : List Record) (t₀ : Tally) (xs : List ℕ) (i : ℕ) (t : Tally) (zs : List ℕ) : Type 0 where
  pub inside : i ≤ length rs
  pub long : length zs ≡ length xs
  pub going : Going s phase zs t (length rs - i)
  pub left : each_of s phase (drop i rs) (pass t zs) ≡ each_of s phase rs (pass t₀ xs)

module _ (s : ParameterSet) (phase : ℕ) (rs : List Record) (t₀ : Tally) (xs : List ℕ) where
  pub reached_none : Going s phase xs t₀ (length rs) → Reached s phase rs t₀ xs 0 t₀ xs
  reached_none G = record { inside = omega arith; long = refl; going = subst (Going s phase xs t₀) (sym (sub-zero (length rs))) G; left = refl }

  module _ (i : ℕ) (t : Tally) (zs : List ℕ) (reached : Reached s phase rs t₀ xs i t zs) where
    -- what `step` asks
    pub step_asks : i < length rs → Going s phase zs t 1
    step_asks l = record {
      accepted = reached.going.accepted;
      whole = reached.going.whole;
      places = reached.going.places;
      keeps = λ z f. omega (arith, l, reached.going.keeps z f);
      counts = omega (arith, l, reached.going.counts);
      rank = reached.going.rank;
      low = reached.going.low;
    }

    pub reached_next : i < length rs → (r : Record) → get_or rs i r ≡ r → (t' : Tally) (zs' : List ℕ)
        → (t' ≡ (step_of s phase r (pass t zs)).tally) × (zs' ≡ (step_of s phase r (pass t zs)).buffer)
        → length zs' ≡ length zs → Reached s phase rs t₀ xs (i + 1) t' zs'
    unfolding each_of
    reached_next l r f t' zs' e same = record {
      inside = omega (arith, l);
      long = same ∙ reached.long;
      going = subst (λ (u : Tally). Going s phase zs' u (length rs - (i + 1))) (sym e.0)
          (goes_on s phase r (pass t zs) zs' (length rs - (i + 1)) same (subst (Going s phase zs t) one_more_lem reached.going));
      left = ap (each_of s phase (drop (i + 1) rs)) whole_step
          ∙ ap (λ (k : ℕ). each_of s phase (drop k rs) (step_of s phase r (pass t zs))) (add-one i)
          ∙ sym (ap (λ (qs : List Record). each_of s phase qs (pass t zs)) (drop-cons rs i r l ∙ ap (λ (q : Record). q ∷ drop (suc i) rs) f))
          ∙ reached.left;
    }
      where
        one_more_lem : length rs - i ≡ suc (length rs - (i + 1))
        one_more_lem = omega (arith, l)

        whole_step : pass t' zs' ≡ step_of s phase r (pass t zs)
        whole_step = λ j. record { tally = e.0 j; buffer = e.1 j }

    pub reached_all : length rs ≤ i → (t ≡ (each_of s phase rs (pass t₀ xs)).tally) × (zs ≡ (each_of s phase rs (pass t₀ xs)).buffer)
    unfolding each_of
    reached_all l =
        let e : pass t zs ≡ each_of s phase rs (pass t₀ xs) = sym (ap (λ (qs : List Record). each_of s phase qs (pass t zs)) (drop_of_length-le rs l)) ∙ reached.left in
        (ap (λ (u : Pass). u.tally) e, ap (λ (u : Pass). u.buffer) e)

-- ---- leaves and marks

-- a pass that marks leaves the tally
pub marks_tally : (s : ParameterSet) (rs : List Record) (u : Pass) → (each_of s 1 rs u).tally ≡ u.tally
unfolding each_of step_of
marks_tally s [] u = refl
marks_tally s (r ∷ rs) u = marks_tally s rs (step_of s 1 r u) ∙ mark_tally s r u

-- and after a refusal the store too
pub marks_none : (s : ParameterSet) (rs : List Record) (t : Tally) (xs : List ℕ) → may_rise t ≡ false → each_of s 1 rs (pass t xs) ≡ pass t xs
unfolding each_of step_of mark_of
marks_none s [] t xs e = refl
marks_none s (r ∷ rs) t xs e = ap (each_of s 1 rs) (rw e refl) ∙ marks_none s rs t xs e

-- ---- the records of a list of numbers, seven for each

chunk_at : (n i : ℕ) (ns : List ℕ) → i < n → get_or (first_chunks 7 n ns) i [] ≡ take 7 (drop (i * 7) ns)
chunk_at zero i ns l = absurd (omega (arith, l))
chunk_at (suc n) zero ns l = let e : zero * 7 ≡ 0 = omega arith in ap (λ (m : ℕ). take 7 (drop m ns)) (sym e)
chunk_at (suc n) (suc i) ns l =
    let e : 7 + i * 7 ≡ suc i * 7 = omega arith in
    chunk_at n i (drop 7 ns) (omega (arith, l)) ∙ ap (take 7) (drop-drop (i * 7) 7 ns ∙ ap (λ (m : ℕ). drop m ns) e)

first_of : (ys : List ℕ) → get_or (take 7 ys) 0 0 ≡ get_or ys 0 0
first_of [] = refl
first_of (y ∷ ys) = refl

take_twice : (n : ℕ) (ys : List ℕ) → take n (take n ys) ≡ take n ys
take_twice zero ys = refl
take_twice (suc n) [] = refl
take_twice (suc n) (y ∷ ys) = ap (λ (zs : List ℕ). y ∷ zs) (take_twice n ys)

rest_of : (ys : List ℕ) → take 6 (drop 1 (take 7 ys)) ≡ take 6 (drop 1 ys)
rest_of [] = refl
rest_of (y ∷ ys) = take_twice 6 ys

module _ (ns : List ℕ) (i : ℕ) (l : i < length ns / 7) {part : List ℕ} (is : part ≡ get_or (first_chunks 7 (length ns / 7) ns) i []) where
  part_is : part ≡ take 7 (drop (i * 7) ns)
  part_is = is ∙ chunk_at (length ns / 7) i ns l

  place_of : get_or part 0 0 ≡ get_or ns (i * 7) 0
  place_of =
      let e : i * 7 + 0 ≡ i * 7 = omega arith in
      ap (λ (ys : List ℕ). get_or ys 0 0) part_is ∙ first_of (drop (i * 7) ns) ∙ get_or-drop (i * 7) ns 0 0 ∙ ap (λ (m : ℕ). get_or ns m 0) e

  words_of : take 6 (drop 1 part) ≡ words_part ns i
  words_of =
      let e : 6 ≡ i * 7 + 7 - (i * 7 + 1) = omega arith in
      ap (λ (ys : List ℕ). take 6 (drop 1 ys)) part_is ∙ rest_of (drop (i * 7) ns) ∙ ap (take 6) (drop-drop 1 (i * 7) ns)
      ∙ ap (λ (m : ℕ). take m (drop (i * 7 + 1) ns)) e

  pub six_of : length (take 6 (drop 1 part)) ≡ 6
  six_of = ap length words_of ∙ six_at ns i (omega (arith, l))

  -- Where nothing is refused, a leaf is read from the list itself.
  pub marks_next : {s : ParameterSet} {t : Tally} {xs zs : List ℕ} → Reached s 1 (listed ns) t xs i t zs → may_rise t ≡ true → (zs' : List ℕ)
      → zs' ≡ mark_leaf s t.places (get_or part 0 0) (take s.node_size (take 6 (drop 1 part))) zs → length zs' ≡ length zs → Reached s 1 (listed ns) t xs (i + 1) t zs'
  unfolding step_of mark_of record_at
  marks_next {s} {t} {xs} {zs} reached may zs' e =
      let r = record_at ns i in
      let words = words_of ∙ sym (words_at ns i (omega (arith, l))) in
      reached_next s 1 (listed ns) t xs i t zs reached (omega (arith, l, listed_count ns)) r (listed_at ns i r l) t zs' (
        sym (mark_tally s r (pass t zs)),
        e ∙ (λ j. mark_leaf s t.places (place_of j) (take s.node_size (words j)) zs) ∙ sym (rw may refl),
      )
