-- The refusals from 1 to 10, and what a push begins with.
use mathlib.Core.Path.{◌≡◌, sym, ap, ◌∙◌}
use mathlib.Core.Bool.{Bool, true, false, not, ◌&&◌}
use mathlib.Core.List.{List, []}
use Prim.Native.Nat.{ℕ, ◌*◌, ◌^◌}
use lib.Dec.{lit<, leb}
use Rattle.modular.specs.Arithmetic.{all_words}
use Rattle.refusals.specs.Table.{first_refusal}
use Rattle.refusals.proofs.Table.{Numbered, none as no-refusals, next, numbered_append, refusal_applies, refusal_passes, first_back}
use Rattle.parameters.specs.declared.ParameterSet.{ParameterSet}
use Rattle.parameters.specs.ParameterSet.{prime_of, set_refusals}
use Rattle.parameters.proofs.Accepted.{set-numbered}
use Rattle.trees.specs.SetTrees.{dimensions_of, leaf_count, store_words}
use Rattle.tree_entries.specs.Trees.{has}
use Rattle.records.specs.Tests.{keepable}
use Rattle.pushes.specs.Passes.{levels_by}
use Rattle.push_entries.specs.Ends.{early_refusals, begun, begin_of}

module _ (s : ParameterSet) (store : List ℕ) (n : ℕ) where
  abbrev bad_lengths : Bool
  bad_lengths = not (has store (store_words s) && leb n (2 ^ 32))

  -- the arity, and how many levels are made by going over the records
  abbrev k' : ℕ
  k' = (dimensions_of s).arity

  abbrev by_records_lem : ℕ
  by_records_lem = levels_by (dimensions_of s).arity s.height (leaf_count s) (n * 8)

  pub early_numbered : Numbered (early_refusals s store n)
  unfolding early_refusals
  early_numbered = numbered_append (set-numbered s) (next (lit< tt) no-refusals)

  pub early_ten : first_refusal (set_refusals s) ≡ 0 → bad_lengths ≡ true → first_refusal (early_refusals s store n) ≡ 10
  unfolding early_refusals
  early_ten z e = first_back (set_refusals s) _ (set-numbered s) z ∙ refusal_applies 10 bad_lengths _ e

  pub early_none : first_refusal (set_refusals s) ≡ 0 → bad_lengths ≡ false → first_refusal (early_refusals s store n) ≡ 0
  unfolding early_refusals first_refusal
  early_none z e = first_back (set_refusals s) _ (set-numbered s) z ∙ refusal_passes 10 bad_lengths [] e

  pub begin_clear : (m : ℕ) (w : Bool) (levels k : ℕ) → m ≡ leaf_count s → w ≡ all_words (prime_of s) store → levels ≡ by_records_lem → k ≡ k'
      → first_refusal (early_refusals s store n) ≡ 0
      → record {
        number = 0;
        places = m;
        placed = true;
        words = w;
        distinct = true;
        rising = true;
        above = 0;
        few = leb n keepable;
        kept = 0;
        levels = levels;
        before = 0;
        under = k;
        made = 0;
      } ≡ begin_of s store n
  unfolding begin_of
  begin_clear m w levels k f g x y e =
      (λ i. begun 0 (f i) (g i) (leb n keepable) (x i) (y i)) ∙ ap (λ (r : ℕ). begun r (leaf_count s) (all_words (prime_of s) store) (leb n keepable) by_records_lem k') (sym e)
