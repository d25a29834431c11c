-- A set, a store, a place and a leaf that are not refused.
use mathlib.Core.Path.{◌≡◌}
use mathlib.Core.Bool.{not, ◌&&◌}
use mathlib.Core.List.{List}
use Prim.Native.Nat.{ℕ, ◌<◌}
use borrow.Author.Tests.{ltb-true, not-false}
use lib.Dec.{ltb}
use lib.ListN.{length}
use Rattle.refusals.specs.Table.{first_refusal}
use Rattle.refusals.proofs.Table.{Numbered}
use Rattle.refusals.proofs.LengthsPlacesAndWords as three
use Rattle.parameters.specs.declared.ParameterSet.{ParameterSet}
use Rattle.parameters.specs.ParameterSet.{prime_of, set_refusals}
use Rattle.parameters.proofs.Accepted.{set-numbered}
use Rattle.trees.specs.SetTrees.{leaf_count, store_words}
use Rattle.tree_entries.specs.Trees.{has}
use Rattle.tree_entries.proofs.AcceptedTrees.{first_long, second_long}
use Rattle.change_entries.specs.Replacement.{replace_refusals}

pub record Replaced (s : ParameterSet) (store : List ℕ) (q : ℕ) (leaf : List ℕ) : Type 0 where
  pub set : first_refusal (set_refusals s) ≡ 0
  pub store_long : length store ≡ store_words s
  pub leaf_long : length leaf ≡ s.node_size
  pub place : q < leaf_count s

pub replace_numbered : (s : ParameterSet) (store : List ℕ) (q : ℕ) (leaf : List ℕ) → Numbered (replace_refusals s store q leaf)
unfolding replace_refusals
replace_numbered s store q leaf = three.all_numbered (prime_of s) _ (set-numbered s) _ _ _

pub replace_passed : (s : ParameterSet) (store : List ℕ) (q : ℕ) (leaf : List ℕ) → first_refusal (replace_refusals s store q leaf) ≡ 0 → Replaced s store q leaf
unfolding replace_refusals
replace_passed s store q leaf z =
    let P = three.passed (prime_of s) (set_refusals s) (set-numbered s) (not (has store (store_words s) && has leaf s.node_size)) (not (ltb q (leaf_count s))) _ z in
    let both = not-false (has store (store_words s) && has leaf s.node_size) P.lengths in
    record {
      set = P.before;
      store_long = first_long store leaf (store_words s) s.node_size both;
      leaf_long = second_long store leaf (store_words s) s.node_size both;
      place = ltb-true q (leaf_count s) (not-false (ltb q (leaf_count s)) P.place);
    }
