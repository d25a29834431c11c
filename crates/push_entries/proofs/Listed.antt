-- A list of whole records is pushed as its records are, and any other is refused, by refusal 10 at the latest.
use mathlib.Core.Path.{◌≡◌, refl, sym, ap, subst, ◌∙◌}
use mathlib.Core.Logic.{◌≢◌}
use mathlib.Core.Bool.{Bool, true, false, not, ◌&&◌}
use mathlib.Core.List.{List, [], ◌∷◌, ◌++◌}
use Prim.Native.Nat.{ℕ, ◌*◌, ◌/◌, ◌%◌, ◌^◌, ◌<◌}
use native.Mathlib.Omega.{arith}
use lib.ListN.{length, replicate}
use borrow.Author.Tests.{eq-eqb, ne_eqb}
use Rattle.std.specs.Result.{IsErrAnd}
use Rattle.refusals.specs.Table.{Refusal, refusal, first_refusal, not_words, Reply, refused, reply, after}
use Rattle.refusals.specs.Answers.{Answer, number_of}
use Rattle.refusals.specs.declared.Refusal.{Refusal as Refused}
use Rattle.refusals.proofs.Table.{refusal_applies, first_back, front_answers, refused_equations}
use Rattle.refusals.proofs.Answers.{nonzero, refusal_returned}
use Rattle.parameters.specs.declared.ParameterSet.{ParameterSet}
use Rattle.parameters.specs.ParameterSet.{prime_of, set_refusals}
use Rattle.parameters.proofs.Accepted.{set-numbered}
use Rattle.repeats.specs.Repeats.{repeats}
use Rattle.repeats.specs.Maps.{map_words}
use Rattle.trees.specs.SetTrees.{leaf_count, store_words}
use Rattle.tree_entries.specs.Trees.{has}
use Rattle.change_entries.specs.Replacement.{changed_reply}
use Rattle.records.specs.declared.record.Record.{Record}
use Rattle.records.specs.declared.tally.Tally.{Tally}
use Rattle.records.specs.Records.{places_of, places_below, used_words}
use Rattle.push_entries.specs.Pushes.{few_records, pushing, push_refusals, push_reply, pushed}
use Rattle.records.specs.Tests.{pass, keepable, Going}
use Rattle.pushes.specs.Passes.{Rising, Sweeping, each_of, search_of, levels_of, sweep_of}
use Rattle.push_entries.specs.Ends.{early_refusals, begin_of, finish_of}
use Rattle.push_entries.proofs.Passes.{begins, at_once}
use Rattle.push_entries.proofs.Course as course
use Rattle.records.specs.Listed.{listed, whole_records}
use Rattle.push_entries.specs.Listed.{listed_refusals, listed_reply, listed_pushed}
use Rattle.records.proofs.Listed.{listed_count}

no_length : (a b c : Bool) → b ≡ false → not (a && (b && c)) ≡ true
no_length true b c e = rw e
no_length false b c e = refl

module _ (s : ParameterSet) (xs ns : List ℕ) where
  abbrev rs : List Record
  rs = listed ns

  -- ---- a list that is not of whole records

  abbrev late : List Refusal
  late = refusal 11 (not (places_below (leaf_count s) rs)) ∷ not_words (prime_of s) (used_words s.node_size rs ++ xs) ∷ refusal 17 (repeats (places_of rs)) ∷ []

  part : length ns % 7 ≢ 0 → listed_refusals s xs ns ≡ set_refusals s ++ (refusal 10 true ∷ late)
  unfolding listed_refusals whole_records
  part o = ap (λ (b : Bool). set_refusals s ++ (refusal 10 b ∷ late)) (no_length (has xs (store_words s)) (whole_records ns) (few_records rs) (ne_eqb (length ns % 7) 0 o))

  -- the set's refusal, or else 10
  pub part_is_refused : length ns % 7 ≢ 0 → (answer : Answer ℕ) (r : Refused) → IsErrAnd answer (λ e. e ≡ r) → number_of r ≡ first_refusal (set_refusals s)
      → (changed_reply answer ≡ listed_reply s xs ns) × (xs ≡ listed_pushed s xs ns)
  unfolding listed_reply listed_pushed
  part_is_refused o answer r i e =
      refusal_returned (λ made. made ∷ []) answer r (listed_refusals s xs ns) ((pushing s xs rs).made ∷ []) xs (pushing s xs rs).store i
      (front_answers (set_refusals s) (refusal 10 true ∷ late) e (nonzero r) ∙ sym (ap first_refusal (part o)))

  pub ten_refuses : length ns % 7 ≢ 0 → first_refusal (set_refusals s) ≡ 0 → (refused 10 ≡ listed_reply s xs ns) × (xs ≡ listed_pushed s xs ns)
  unfolding listed_reply listed_pushed
  ten_refuses o z =
      refused_equations (listed_refusals s xs ns) ((pushing s xs rs).made ∷ []) xs (pushing s xs rs).store 10
      (sym (ap first_refusal (part o) ∙ first_back (set_refusals s) _ (set-numbered s) z ∙ refusal_applies 10 true late refl)) (λ y. absurd (omega (arith, y)))

  -- ---- a list of whole records

  whole_refusals : length ns % 7 ≡ 0 → push_refusals s xs rs ≡ listed_refusals s xs ns
  unfolding push_refusals listed_refusals whole_records
  whole_refusals e = rw (eq-eqb (length ns % 7) 0 e)

  pub whole_reply : length ns % 7 ≡ 0 → push_reply s xs rs ≡ listed_reply s xs ns
  unfolding push_reply listed_reply
  whole_reply e = ap (λ (refusals : List Refusal). reply refusals ((pushing s xs rs).made ∷ [])) (whole_refusals e)

  pub whole_pushed : length ns % 7 ≡ 0 → pushed s xs rs ≡ listed_pushed s xs ns
  unfolding pushed listed_pushed
  whole_pushed e = ap (λ a. after a xs (pushing s xs rs).store) (whole_reply e)

  -- an early refusal
  pub early_is_refused : (answer : Answer ℕ) (r : Refused) → IsErrAnd answer (λ e. e ≡ r) → number_of r ≡ first_refusal (early_refusals s xs (length ns / 7)) → length ns % 7 ≡ 0
      → (changed_reply answer ≡ listed_reply s xs ns) × (xs ≡ listed_pushed s xs ns)
  early_is_refused answer r i e w =
      let R = at_once s xs rs answer r i (e ∙ ap (λ (m : ℕ). first_refusal (early_refusals s xs m)) (sym (listed_count ns))) in
      (R.0 ∙ whole_reply w, R.1 ∙ whole_pushed w)

  -- what it begins with, and what the passes ask
  module _ (b : Tally) (begun : b ≡ begin_of s xs (length ns / 7)) where
    begun_is : b ≡ begins s xs rs
    begun_is = begun ∙ ap (begin_of s xs) (sym (listed_count ns))

    module _ (bytes : length ns * 8 < 2 ^ 63) where
      record_bytes : length rs * 56 < 2 ^ 63
      record_bytes = omega (arith, bytes, listed_count ns)

      pub test_asks : Going s 0 (replicate keepable 0) b (length rs)
      test_asks = course.test_asks s xs rs record_bytes b begun_is

      module _ (t : Tally) (e : t ≡ (each_of s 0 rs (pass b (replicate keepable 0))).tally) where
        pub search_asks : Going s 3 (replicate map_words 0) t (length rs)
        search_asks = course.search_asks s xs rs record_bytes b begun_is t e

        module _ (u : Tally) (f : u ≡ search_of s rs t) where
          pub mark_asks : Going s 1 xs u (length ns / 7)
          mark_asks = subst (Going s 1 xs u) (listed_count ns) (course.mark_asks s xs rs record_bytes b begun_is t e u f)

          module _ (v : Tally) (ys : List ℕ) (g : (v ≡ (each_of s 1 rs (pass u xs)).tally) × (ys ≡ (each_of s 1 rs (pass u xs)).buffer)) (same : length ys ≡ length xs) where
            pub rise_asks : Rising s ys v (length rs)
            rise_asks = course.rise_asks s xs rs record_bytes b begun_is t e u f v ys g same

            module _ (w : Tally) (zs : List ℕ) (h : (w ≡ (levels_of s rs (pass v ys)).tally) × (zs ≡ (levels_of s rs (pass v ys)).buffer)) (long : length zs ≡ length ys) where
              pub sweep_asks : Sweeping s zs w
              sweep_asks = course.sweep_asks s xs rs record_bytes b begun_is t e u f v ys g same w zs h long

              module _ (x : Tally) (ws : List ℕ) (k : (x ≡ (sweep_of s (pass w zs)).tally) × (ws ≡ (sweep_of s (pass w zs)).buffer)) where
                pub finish_asks : first_refusal (early_refusals s xs (length ns / 7)) ≡ 0 → x.number ≡ 0
                finish_asks n = course.finish_asks s xs rs record_bytes b begun_is t e u f v ys g same w zs h long x ws k (ap (λ (m : ℕ). first_refusal (early_refusals s xs m)) (listed_count ns) ∙ n)

                pub whole_is_pushed : length ns % 7 ≡ 0 → (r : Reply) → r ≡ finish_of x → (r ≡ listed_reply s xs ns) × (ws ≡ listed_pushed s xs ns)
                whole_is_pushed whole r l =
                    let P = course.is_pushed s xs rs record_bytes b begun_is t e u f v ys g same w zs h long x ws k r l in
                    (P.0 ∙ whole_reply whole, P.1 ∙ whole_pushed whole)
