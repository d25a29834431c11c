-- Where a push begins and what it answers at its end, as its code has them. Nothing here has to be believed: `proofs/Passes.antt` equates the
-- whole with `Pushes`.
use Rattle.std.specs.Prelude.{Bool, true, false, cond, not, ◌&&◌, List, [], ◌∷◌, ◌++◌, ℕ, zero, suc, ◌*◌, ◌^◌, eqb, leb}
use Rattle.modular.specs.Arithmetic.{all_words}
use Rattle.refusals.specs.Table.{Refusal, refusal, first_refusal, Reply, refused, done}
use Rattle.parameters.specs.declared.ParameterSet.{ParameterSet}
use Rattle.parameters.specs.ParameterSet.{prime_of, set_refusals}
use Rattle.trees.specs.SetTrees.{dimensions_of, leaf_count, store_words}
use Rattle.tree_entries.specs.Trees.{has}
use Rattle.records.specs.declared.tally.Tally.{Tally}
use Rattle.records.specs.Tests.{keepable}
use Rattle.pushes.specs.Passes.{levels_by}

-- refusals 1 to 10, for n records
unfoldable pub early_refusals : ParameterSet → List ℕ → ℕ → List Refusal
early_refusals s store n = set_refusals s ++ (refusal 10 (not (has store (store_words s) && leb n (2 ^ 32))) ∷ [])

-- what a push of m records begins with: the first of these refusals, or 0; then the places, whether the store is words, whether the records
-- are few, how many levels are made by going over them, and the arity
abbrev pub begun : ℕ → ℕ → Bool → Bool → ℕ → ℕ → Tally
begun zero n w few levels k = record {
  number = 0;
  places = n;
  placed = true;
  words = w;
  distinct = true;
  rising = true;
  above = 0;
  few = few;
  kept = 0;
  levels = levels;
  before = 0;
  under = k;
  made = 0;
}
begun (suc r) n w few levels k = record {
  number = suc r;
  places = 0;
  placed = true;
  words = true;
  distinct = true;
  rising = true;
  above = 0;
  few = false;
  kept = 0;
  levels = 0;
  before = 0;
  under = 0;
  made = 0;
}

unfoldable pub begin_of : ParameterSet → List ℕ → ℕ → Tally
begin_of s store m =
    begun (first_refusal (early_refusals s store m)) (leaf_count s) (all_words (prime_of s) store) (leb m keepable)
    (levels_by (dimensions_of s).arity s.height (leaf_count s) (m * 8)) (dimensions_of s).arity

-- the first refusal's number, or the count
unfoldable pub finish_of : Tally → Reply
finish_of t =
    cond (eqb t.number 0)
    (cond t.placed
    (cond t.words (cond t.distinct (done (t.made ∷ [])) (refused 17)) (refused 12))
    (refused 11))
    (refused t.number)
