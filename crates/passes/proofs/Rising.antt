-- The levels that are made by going over the records: what the pass of each presumes and leaves.
use mathlib.Core.Path.{◌≡◌, refl, sym, ap, subst, ◌∙◌}
use mathlib.Core.Bool.{Bool, true, false, cond}
use mathlib.Core.List.{List, [], ◌∷◌}
use Prim.Native.Nat.{ℕ, zero, suc, ◌+◌, ◌*◌, ◌/◌, ◌^◌, ◌≤◌, ◌<◌}
use native.Mathlib.Nat.{suc-mul, mul-le-mul_right}
use native.Mathlib.Numerals.{add-one}
use native.Mathlib.Omega.{arith}
use lib.Dec.{lit<}
use lib.ListN.{length}
use Rattle.refusals.specs.Table.{first_refusal}
use Rattle.parameters.specs.declared.ParameterSet.{ParameterSet}
use Rattle.parameters.specs.ParameterSet.{set_refusals}
use Rattle.merkle.specs.Marks.{rewrite_marked}
use Rattle.merkle.specs.Numbering.{rows_before}
use Rattle.merkle.specs.Replacement.{Counted}
use Rattle.merkle.proofs.Numbering.{rows_none}
use Rattle.trees.specs.Shapes.{counted}
use Rattle.trees.specs.SetTrees.{tree_of_set, dimensions_of, leaf_count}
use Rattle.trees.proofs.SetTrees as tree_of
use Rattle.marks.specs.Marks.{mark, Rank}
use Rattle.records.specs.declared.record.Record.{Record}
use Rattle.records.specs.declared.tally.Tally.{Tally}
use Rattle.records.specs.Tests.{Pass, pass, Going, ranked, room_of}
use Rattle.pushes.specs.Passes.{Rising, Risen, may_write, counting, wrote, rise_of, step_of, each_of, by_records, next_of, upwards, levels_up_to, levels_of}
use Rattle.pushes.proofs.Records.{rise_unrefused, one_at_most}
use Rattle.pushes.proofs.Ranks.{some_level, first_under, next_before, next_under}

-- ---- a pass over a level

-- it changes the count alone, and by one a record at most
each_counts : (s : ParameterSet) (rs : List Record) (u : Pass) → (m : ℕ) × (m ≤ u.tally.made + length rs) × ((each_of s 2 rs u).tally ≡ counting u.tally m)
unfolding each_of step_of rise_of
each_counts s [] u = (u.tally.made, omega arith, refl)
each_counts s (r ∷ rs) u = go (may_write u.tally r.place) (each_counts s rs)
  where
    c : Counted
    c = rewrite_marked (tree_of_set s) mark u.tally.places (u.tally.before + r.place / u.tally.under) (counted u.buffer u.tally.made)

    go : (b : Bool) → ((u : Pass) → (m : ℕ) × (m ≤ u.tally.made + length rs) × ((each_of s 2 rs u).tally ≡ counting u.tally m))
        → (m : ℕ) × (m ≤ u.tally.made + length (r ∷ rs)) × ((each_of s 2 rs (cond b (wrote u.tally c) u)).tally ≡ counting u.tally m)
    go true ih =
        let R = ih (wrote u.tally c) in
        (R.0, omega (arith, R.1, one_at_most (tree_of_set s) u.tally.places (u.tally.before + r.place / u.tally.under) (counted u.buffer u.tally.made)), R.2)
    go false ih = let R = ih u in (R.0, omega (arith, R.1), R.2)

-- ---- all of them

module _ (s : ParameterSet) (rs : List Record) (t₀ : Tally) (xs : List ℕ) where
  abbrev begun : Pass
  begun = pass t₀ xs

  -- After j levels the tally has the numbers of the next.
  pub record Numbers (j : ℕ) (t : Tally) : Type 0 where
    pub made : ℕ
    pub few : made ≤ t₀.made + j * length rs
    pub is : t ≡ ranked t₀ (rows_before (tree_of_set s) s.height j) ((tree_of_set s).arity ^ suc j) made

  module _ (none : first_refusal (set_refusals s) ≡ 0) (places : t₀.places ≡ leaf_count s) (before : t₀.before ≡ 0) (under : t₀.under ≡ (dimensions_of s).arity) where
    pub levels_at : (j : ℕ) → j ≤ s.height → Numbers j (levels_up_to s rs j begun).tally
    unfolding levels_up_to next_of
    levels_at zero b =
        record {
          made = t₀.made;
          few = omega arith;
          is =
              (λ i. ranked t₀ (before i) (under i) t₀.made)
              ∙ (λ i. ranked t₀ (sym (rows_none (tree_of_set s) (tree_of.shape_regular s none) s.height) i) (first_under s none i) t₀.made);
        }
    levels_at (suc j) b =
        let N = levels_at j (omega arith) in
        let E = each_counts s rs (levels_up_to s rs j begun) in
        let n = N.is in
        let f : (each_of s 2 rs (levels_up_to s rs j begun)).tally ≡ ranked t₀ (rows_before (tree_of_set s) s.height j) ((tree_of_set s).arity ^ suc j) E.0 =
        E.2 ∙ ap (λ (t : Tally). counting t E.0) n in
        record {
          made = E.0;
          few = omega (arith, E.1, N.few, ap (λ (t : Tally). t.made) n, suc-mul j (length rs));
          is =
              ap (next_of s) f
              ∙ (λ i. ranked t₀ (rows_before (tree_of_set s) s.height j + places i / (tree_of_set s).arity ^ suc j) ((tree_of_set s).arity ^ suc j * (tree_of_set s).arity) E.0)
              ∙ (λ i. ranked t₀ (next_before s none j b i) (next_under s none j i) E.0);
        }

-- in the course of the levels
pub record Reached (s : ParameterSet) (rs : List Record) (t₀ : Tally) (xs : List ℕ) (level : ℕ) (t : Tally) (zs : List ℕ) : Type 0 where
  pub inside : level ≤ by_records t₀
  pub long : length zs ≡ length xs
  pub is : pass t zs ≡ levels_up_to s rs level (pass t₀ xs)

module _ (s : ParameterSet) (rs : List Record) (t₀ : Tally) (xs : List ℕ) (G : Rising s xs t₀ (length rs)) where
  abbrev end : ℕ
  end = by_records t₀

  pub levels_begin : Reached s rs t₀ xs 0 t₀ xs
  unfolding levels_up_to
  levels_begin = record { inside = omega arith; long = refl; is = refl }

  module _ (level : ℕ) (l : level < end) where
    unrefused : t₀.number ≡ 0
    unrefused = rise_unrefused t₀ (some_level t₀ level l).0

    none : first_refusal (set_refusals s) ≡ 0
    none = G.accepted unrefused

    low : level < s.height
    low = omega (arith, (some_level t₀ level l).1, G.levels unrefused)

    numbers : Numbers s rs t₀ xs level (levels_up_to s rs level (pass t₀ xs)).tally
    numbers = levels_at s rs t₀ xs none (G.places unrefused) (G.before unrefused) (G.under unrefused) level (omega (arith, low))

    rank_is : Rank (dimensions_of s) (rows_before (tree_of_set s) s.height level) ((tree_of_set s).arity ^ suc level)
    unfolding rows_before
    rank_is = record { level = level; low = low; rows = λ D C. refl; places = refl }

    -- what the pass asks
    asks : Going s 2 xs (ranked t₀ (rows_before (tree_of_set s) s.height level) ((tree_of_set s).arity ^ suc level) numbers.made) (length rs)
    unfolding room_of
    asks = record {
      accepted = G.accepted;
      whole = G.whole;
      places = G.places;
      keeps = λ z. absurd (omega (arith, z));
      counts =
          omega (arith, numbers.few, G.counts, mul-le-mul_right {m = level} {n = 32} (length rs) (omega (arith, low, (tree_of.valid_numbers s none).low)));
      rank = λ z f. rank_is;
      low = lit< tt;
    }

    module _ (t : Tally) (zs : List ℕ) (reached : Reached s rs t₀ xs level t zs) where
      tally_is : t ≡ ranked t₀ (rows_before (tree_of_set s) s.height level) ((tree_of_set s).arity ^ suc level) numbers.made
      tally_is = ap (λ (u : Pass). u.tally) reached.is ∙ numbers.is

      pub level_asks : Going s 2 zs t (length rs)
      level_asks =
          subst (λ (u : Tally). Going s 2 zs u (length rs)) (sym tally_is)
          (record {
            accepted = asks.accepted;
            whole = λ z. reached.long ∙ asks.whole z;
            places = asks.places;
            keeps = asks.keeps;
            counts = asks.counts;
            rank = asks.rank;
            low = asks.low;
          })

      module _ (t' : Tally) (zs' : List ℕ) (e : (t' ≡ (each_of s 2 rs (pass t zs)).tally) × (zs' ≡ (each_of s 2 rs (pass t zs)).buffer)) where
        -- what the numbers of the next level ask
        pub next_asks : Risen s t'
        next_asks =
            let E = each_counts s rs (pass t zs) in
            let f : t' ≡ ranked t₀ (rows_before (tree_of_set s) s.height level) ((tree_of_set s).arity ^ suc level) E.0 = e.0 ∙ E.2 ∙ ap (λ (u : Tally). counting u E.0) tally_is in
            subst (Risen s) (sym f) (record { accepted = none; places = G.places unrefused; rank = rank_is })

        pub level_next : length zs' ≡ length zs → (t'' : Tally) → t'' ≡ next_of s t' → Reached s rs t₀ xs (level + 1) t'' zs'
        unfolding levels_up_to
        level_next same t'' f =
            let step : pass t'' zs' ≡ upwards s (each_of s 2 rs (pass t zs)) = λ i. pass ((f ∙ ap (next_of s) e.0) i) (e.1 i) in
            record {
              inside = omega (arith, l);
              long = same ∙ reached.long;
              is =
                  step ∙ ap (λ (u : Pass). upwards s (each_of s 2 rs u)) reached.is
                  ∙ ap (λ (n : ℕ). levels_up_to s rs n (pass t₀ xs)) (sym (add-one level));
            }

  pub levels_end : (level : ℕ) → end ≤ level → (t : Tally) (zs : List ℕ) → Reached s rs t₀ xs level t zs
      → (t ≡ (levels_of s rs (pass t₀ xs)).tally) × (zs ≡ (levels_of s rs (pass t₀ xs)).buffer)
  unfolding levels_of
  levels_end level l t zs reached =
      let e : level ≡ end = omega (arith, l, reached.inside) in
      let f : pass t zs ≡ levels_up_to s rs end (pass t₀ xs) = reached.is ∙ ap (λ (n : ℕ). levels_up_to s rs n (pass t₀ xs)) e in
      (ap (λ (u : Pass). u.tally) f, ap (λ (u : Pass). u.buffer) f)
