-- The levels that are made by going over the records: how many they are, and the numbers of each.
use mathlib.Core.Path.{◌≡◌, refl, sym, ap, ◌∙◌}
use mathlib.Core.Bool.{Bool, true, false, cond}
use Prim.Native.Nat.{ℕ, zero, suc, ◌+◌, ◌*◌, ◌-◌, ◌/◌, ◌^◌, ◌≤◌, ◌<◌}
use native.Mathlib.Nat.{pow-suc, pow-zero, one-mul, one-le-pow, pow-le-pow_right, mul-le-mul, mul-div_cancel, div-le_self}
use native.Mathlib.Omega.{arith}
use lib.Dec.{leb}
use lib.Pow.{pow-add}
use borrow.Author.Tests.{le-leb, lt-leb}
use Rattle.refusals.specs.Table.{first_refusal}
use Rattle.parameters.specs.declared.ParameterSet.{ParameterSet}
use Rattle.parameters.specs.ParameterSet.{set_refusals}
use Rattle.merkle.specs.Numbering.{rows_before, inner}
use Rattle.merkle.proofs.Numbering.{rows_next, number_inner}
use Rattle.trees.specs.Shapes.{ValidNumbers}
use Rattle.trees.specs.SetTrees.{tree_of_set, dimensions_of, leaf_count}
use Rattle.trees.proofs.Counts.{inner_few}
use Rattle.trees.proofs.SetTrees as tree_of
use Rattle.marks.specs.Marks.{Rank}
use Rattle.records.specs.declared.tally.Tally.{Tally}
use Rattle.pushes.specs.Passes.{may_rise, levels_by, by_records}

-- ---- how many they are

pub levels_few : (k i m n : ℕ) → levels_by k i m n ≤ i
unfolding levels_by
levels_few k zero m n = omega arith
levels_few k (suc i) m n = go (leb (m / k) n) (levels_few k i (m / k) n)
  where
    go : (b : Bool) → levels_by k i (m / k) n ≤ i → cond b 0 (suc (levels_by k i (m / k) n)) ≤ suc i
    go true h = omega arith
    go false h = omega arith

-- the loop that counts them has come to a level of so many nodes
pub record Counting (k h m n level nodes : ℕ) : Type 0 where
  pub within : level ≤ h
  pub left : level + levels_by k (h - level) nodes n ≡ levels_by k h m n

pub counting_none : (k h m n : ℕ) → Counting k h m n 0 m
counting_none k h m n =
    let z : h - 0 ≡ h = omega arith in
    let e : levels_by k (h - 0) m n ≡ levels_by k h m n = ap (λ (i : ℕ). levels_by k i m n) z in
    record { within = omega arith; left = omega arith }

module _ {k h m n level nodes : ℕ} (K : Counting k h m n level nodes) where
  module _ (b : level < h) where
    one_more_lem : level + cond (leb (nodes / k) n) 0 (suc (levels_by k (h - (level + 1)) (nodes / k) n)) ≡ levels_by k h m n
    unfolding levels_by
    one_more_lem = let z : suc (h - (level + 1)) ≡ h - level = omega arith in ap (λ (i : ℕ). level + levels_by k i nodes n) z ∙ K.left

    pub counting_ends : nodes / k ≤ n → level ≡ levels_by k h m n
    counting_ends f = let e = rw (le-leb (nodes / k) n f) at one_more_lem in omega arith

    pub counting_more : n < nodes / k → Counting k h m n (level + 1) (nodes / k)
    counting_more f = let e = rw (lt-leb (nodes / k) n f) at one_more_lem in record { within = omega arith; left = omega arith }

  pub counting_all : h ≤ level → level ≡ levels_by k h m n
  unfolding levels_by
  counting_all b =
      let z : h - level ≡ 0 = omega arith in
      let e : level + levels_by k 0 nodes n ≡ levels_by k h m n = ap (λ (i : ℕ). level + levels_by k i nodes n) (sym z) ∙ K.left in
      omega arith

pub by_few : (t : Tally) → by_records t ≤ t.levels
unfolding by_records
by_few t = go (may_rise t)
  where
    go : (b : Bool) → cond b t.levels 0 ≤ t.levels
    go true = omega arith
    go false = omega arith

-- where there is one, nothing is refused
pub some_level : (t : Tally) (level : ℕ) → level < by_records t → (may_rise t ≡ true) × (level < t.levels)
unfolding by_records
some_level t level = go (may_rise t) refl
  where
    go : (b : Bool) → may_rise t ≡ b → level < cond b t.levels 0 → (may_rise t ≡ true) × (level < t.levels)
    go true e l = (e, l)
    go false e l = absurd (omega (arith, l))

-- ---- the numbers of a level

quotient : (k h j : ℕ) → 0 < k → j < h → k ^ h / k ^ suc j ≡ k ^ (h - suc j)
quotient k h j s b =
    let e : h ≡ h - suc j + suc j = omega arith in
    ap (λ (a : ℕ). k ^ a / k ^ suc j) e ∙ ap (λ (a : ℕ). a / k ^ suc j) (pow-add k (h - suc j) (suc j))
    ∙ mul-div_cancel (k ^ (h - suc j)) {n = k ^ suc j} (one-le-pow (suc j) k s)

module _ (s : ParameterSet) (none : first_refusal (set_refusals s) ≡ 0) where
  abbrev k : ℕ
  k = (dimensions_of s).arity

  abbrev h : ℕ
  h = s.height

  v : ValidNumbers (dimensions_of s)
  v = tree_of.valid_numbers s none

  some_arity : 0 < k
  some_arity = omega (arith, v.several)

  pub first_under : k ≡ k ^ 1
  first_under = sym (pow-suc k 0 ∙ ap (λ (a : ℕ). a * k) (pow-zero k) ∙ one-mul k)

  pub next_before : (j : ℕ) → j < h → rows_before (tree_of_set s) h j + leaf_count s / k ^ suc j ≡ rows_before (tree_of_set s) h (suc j)
  next_before j b = ap (λ (a : ℕ). rows_before (tree_of_set s) h j + a) (quotient k h j some_arity b) ∙ sym (rows_next (tree_of_set s) (tree_of.shape_regular s none) h j)

  pub next_under : (j : ℕ) → k ^ suc j * k ≡ k ^ suc (suc j)
  next_under j = sym (pow-suc k (suc j))

  before_low : (j : ℕ) → j < h → rows_before (tree_of_set s) h j < inner (tree_of_set s) h
  before_low j b =
      omega (arith, number_inner (tree_of_set s) (tree_of.shape_regular s none) h j 0 b (one-le-pow (h - suc j) k some_arity))

  pub before_inside : (j : ℕ) → j ≤ h → rows_before (tree_of_set s) h j ≤ inner (tree_of_set s) h
  unfolding inner
  before_inside j b = rising (h - j) j (omega arith)
    where
      rising : (d j : ℕ) → j + d ≡ h → rows_before (tree_of_set s) h j ≤ rows_before (tree_of_set s) h h
      rising zero j e = let f : j ≡ h = omega arith in rw f (omega arith)
      rising (suc d) j e = omega (arith, rising d (suc j) (omega arith), rows_next (tree_of_set s) (tree_of.shape_regular s none) h j)

  -- the numbers of the next level fit
  module _ {before under : ℕ} (R : Rank (dimensions_of s) before under) where
    pub some_under : 0 < under
    some_under = omega (arith, R.places, one-le-pow (suc R.level) k some_arity)

    pub under_fits : under * k < 2 ^ 64
    under_fits =
        let few : under ≤ 4294967296 = omega (arith, R.places, v.few, pow-le-pow_right some_arity {i = suc R.level} {j = h} R.low) in
        omega (arith, mul-le-mul {n₁ = under} {m₁ = k} {n₂ = 4294967296} {m₂ = 12} few (tree_of.arity_few s none))

    pub before_fits : before + leaf_count s / under < 2 ^ 64
    before_fits =
        omega (arith, R.rows s.diagonal s.constants, before_low R.level R.low, inner_few (tree_of_set s) (tree_of.shape_regular s none) h, v.few, div-le_self (leaf_count s) under)
