-- The course of a push over records, call by call: what each pass presumes of what the one before it left, and what the last leaves.
use mathlib.Core.Path.{◌≡◌, sym, ap, subst, ◌∙◌}
use mathlib.Core.List.{List}
use Prim.Native.Nat.{ℕ, ◌*◌, ◌^◌, ◌<◌}
use lib.ListN.{length, replicate}
use Rattle.parameters.specs.declared.ParameterSet.{ParameterSet}
use Rattle.repeats.specs.Maps.{map_words}
use Rattle.refusals.specs.Table.{first_refusal, Reply}
use Rattle.records.specs.declared.record.Record.{Record}
use Rattle.records.specs.declared.tally.Tally.{Tally}
use Rattle.push_entries.specs.Pushes.{push_reply, pushed}
use Rattle.records.specs.Tests.{Pass, pass, keepable, Going}
use Rattle.pushes.specs.Passes.{Rising, Sweeping, each_of, search_of, levels_of, sweep_of}
use Rattle.push_entries.specs.Ends.{early_refusals, finish_of}
use Rattle.push_entries.proofs.Passes.{begins, after_tests, after_search, after_marks, after_levels, pushes, unrefused, first_asks, second_asks, third_asks, fourth_asks, fifth_asks}

module _ (s : ParameterSet) (xs : List ℕ) (rs : List Record) (bytes : length rs * 56 < 2 ^ 63) (b : Tally) (begun : b ≡ begins s xs rs) where
  pub test_asks : Going s 0 (replicate keepable 0) b (length rs)
  test_asks = subst (λ (v : Tally). Going s 0 (replicate keepable 0) v (length rs)) (sym begun) (first_asks s xs rs bytes)

  module _ (t : Tally) (e : t ≡ (each_of s 0 rs (pass b (replicate keepable 0))).tally) where
    tests_are : t ≡ after_tests s xs rs
    tests_are = e ∙ ap (λ (u : Tally). (each_of s 0 rs (pass u (replicate keepable 0))).tally) begun

    pub search_asks : Going s 3 (replicate map_words 0) t (length rs)
    search_asks = subst (λ (v : Tally). Going s 3 (replicate map_words 0) v (length rs)) (sym tests_are) (second_asks s xs rs bytes)

    module _ (u : Tally) (f : u ≡ search_of s rs t) where
      searched : u ≡ after_search s xs rs
      searched = f ∙ ap (search_of s rs) tests_are

      pub mark_asks : Going s 1 xs u (length rs)
      mark_asks = subst (λ (v : Tally). Going s 1 xs v (length rs)) (sym searched) (third_asks s xs rs bytes)

      module _ (v : Tally) (ys : List ℕ) (g : (v ≡ (each_of s 1 rs (pass u xs)).tally) × (ys ≡ (each_of s 1 rs (pass u xs)).buffer)) (same : length ys ≡ length xs) where
        marked : pass v ys ≡ after_marks s xs rs
        marked = (λ i. pass (g.0 i) (g.1 i)) ∙ ap (λ (w : Tally). each_of s 1 rs (pass w xs)) searched

        marked_tally : v ≡ (after_marks s xs rs).tally
        marked_tally = ap (λ (w : Pass). w.tally) marked

        pub rise_asks : Rising s ys v (length rs)
        rise_asks = fourth_asks s xs rs bytes v ys marked_tally same

        module _ (w : Tally) (zs : List ℕ) (h : (w ≡ (levels_of s rs (pass v ys)).tally) × (zs ≡ (levels_of s rs (pass v ys)).buffer)) (long : length zs ≡ length ys) where
          pub sweep_asks : Sweeping s zs w
          sweep_asks = fifth_asks s xs rs bytes v ys marked_tally same w zs h.0 long

          module _ (x : Tally) (ws : List ℕ) (k : (x ≡ (sweep_of s (pass w zs)).tally) × (ws ≡ (sweep_of s (pass w zs)).buffer)) where
            swept : pass x ws ≡ sweep_of s (after_levels s xs rs)
            swept =
                let risen : pass w zs ≡ after_levels s xs rs = (λ i. pass (h.0 i) (h.1 i)) ∙ ap (levels_of s rs) marked in
                (λ i. pass (k.0 i) (k.1 i)) ∙ ap (sweep_of s) risen

            pub finish_asks : first_refusal (early_refusals s xs (length rs)) ≡ 0 → x.number ≡ 0
            finish_asks e = ap (λ (z : Pass). z.tally.number) swept ∙ unrefused s xs rs e

            pub is_pushed : (r : Reply) → r ≡ finish_of x → (r ≡ push_reply s xs rs) × (ws ≡ pushed s xs rs)
            is_pushed r l = (l ∙ ap (λ (z : Pass). finish_of z.tally) swept ∙ (pushes s xs rs).0, ap (λ (z : Pass). z.buffer) swept ∙ (pushes s xs rs).1)
