-- What holds where an entry of the tree refuses nothing.
use mathlib.Core.Path.{◌≡◌}
use mathlib.Core.Bool.{true, not, ◌&&◌}
use mathlib.Core.List.{List}
use Prim.Native.Nat.{ℕ, ◌<◌}
use lib.Dec.{ltb}
use lib.ListN.{length}
use borrow.Author.Tests.{eqb-true, ltb-true, not-false}
use Rattle.modular.proofs.Words.{left_true, right_true}
use Rattle.refusals.specs.Table.{first_refusal}
use Rattle.refusals.proofs.Table.{Numbered}
use Rattle.refusals.proofs.LengthsAndWords as two
use Rattle.refusals.proofs.LengthsPlacesAndWords as three
use Rattle.parameters.specs.declared.ParameterSet.{ParameterSet}
use Rattle.parameters.specs.ParameterSet.{prime_of, set_refusals}
use Rattle.parameters.proofs.Accepted.{set-numbered}
use Rattle.trees.specs.SetTrees.{leaf_count, leaf_words, store_words, opening_words}
use Rattle.tree_entries.specs.Trees.{has, build_refusals, root_refusals, storeless_refusals, open_refusals, verify_refusals}

-- both of two lengths are right
pub first_long : (xs ys : List ℕ) (m n : ℕ) → (has xs m && has ys n) ≡ true → length xs ≡ m
first_long xs ys m n e = eqb-true (length xs) m (left_true (has xs m) (has ys n) e)

pub second_long : (xs ys : List ℕ) (m n : ℕ) → (has xs m && has ys n) ≡ true → length ys ≡ n
second_long xs ys m n e = eqb-true (length ys) n (right_true (has xs m) (has ys n) e)

-- the set, the lengths, the place
pub record Built (s : ParameterSet) (leaves store : List ℕ) : Type 0 where
  pub set : first_refusal (set_refusals s) ≡ 0
  pub leaves_long : length leaves ≡ leaf_words s
  pub store_long : length store ≡ store_words s

pub build_numbered : (s : ParameterSet) (leaves store : List ℕ) → Numbered (build_refusals s leaves store)
unfolding build_refusals
build_numbered s leaves store = two.all_numbered (prime_of s) _ (set-numbered s) _ leaves

pub build_passed : (s : ParameterSet) (leaves store : List ℕ) → first_refusal (build_refusals s leaves store) ≡ 0 → Built s leaves store
unfolding build_refusals
build_passed s leaves store z =
    let P = two.passed (prime_of s) (set_refusals s) (set-numbered s) (not (has leaves (leaf_words s) && has store (store_words s))) leaves z in
    let both = not-false (has leaves (leaf_words s) && has store (store_words s)) P.lengths in
    record { set = P.before; leaves_long = first_long leaves store (leaf_words s) (store_words s) both; store_long = second_long leaves store (leaf_words s) (store_words s) both }

pub record Rooted (s : ParameterSet) (store node : List ℕ) : Type 0 where
  pub set : first_refusal (set_refusals s) ≡ 0
  pub store_long : length store ≡ store_words s
  pub node_long : length node ≡ s.node_size

pub root_numbered : (s : ParameterSet) (store node : List ℕ) → Numbered (root_refusals s store node)
unfolding root_refusals
root_numbered s store node = two.all_numbered (prime_of s) _ (set-numbered s) _ _

pub root_passed : (s : ParameterSet) (store node : List ℕ) → first_refusal (root_refusals s store node) ≡ 0 → Rooted s store node
unfolding root_refusals
root_passed s store node z =
    let P = two.passed (prime_of s) (set_refusals s) (set-numbered s) (not (has store (store_words s) && has node s.node_size)) _ z in
    let both = not-false (has store (store_words s) && has node s.node_size) P.lengths in
    record { set = P.before; store_long = first_long store node (store_words s) s.node_size both; node_long = second_long store node (store_words s) s.node_size both }

pub record StorelessRooted (s : ParameterSet) (leaves node : List ℕ) : Type 0 where
  pub set : first_refusal (set_refusals s) ≡ 0
  pub leaves_long : length leaves ≡ leaf_words s
  pub node_long : length node ≡ s.node_size

pub storeless_numbered : (s : ParameterSet) (leaves node : List ℕ) → Numbered (storeless_refusals s leaves node)
unfolding storeless_refusals
storeless_numbered s leaves node = two.all_numbered (prime_of s) _ (set-numbered s) _ leaves

pub storeless_passed : (s : ParameterSet) (leaves node : List ℕ) → first_refusal (storeless_refusals s leaves node) ≡ 0 → StorelessRooted s leaves node
unfolding storeless_refusals
storeless_passed s leaves node z =
    let P = two.passed (prime_of s) (set_refusals s) (set-numbered s) (not (has leaves (leaf_words s) && has node s.node_size)) leaves z in
    let both = not-false (has leaves (leaf_words s) && has node s.node_size) P.lengths in
    record { set = P.before; leaves_long = first_long leaves node (leaf_words s) s.node_size both; node_long = second_long leaves node (leaf_words s) s.node_size both }

pub record Opened (s : ParameterSet) (store : List ℕ) (q : ℕ) (siblings : List ℕ) : Type 0 where
  pub set : first_refusal (set_refusals s) ≡ 0
  pub store_long : length store ≡ store_words s
  pub siblings_long : length siblings ≡ opening_words s
  pub place : q < leaf_count s

pub open_numbered : (s : ParameterSet) (store : List ℕ) (q : ℕ) (siblings : List ℕ) → Numbered (open_refusals s store q siblings)
unfolding open_refusals
open_numbered s store q siblings = three.all_numbered (prime_of s) _ (set-numbered s) _ _ _

pub open_passed : (s : ParameterSet) (store : List ℕ) (q : ℕ) (siblings : List ℕ) → first_refusal (open_refusals s store q siblings) ≡ 0 → Opened s store q siblings
unfolding open_refusals
open_passed s store q siblings z =
    let P = three.passed (prime_of s) (set_refusals s) (set-numbered s) (not (has store (store_words s) && has siblings (opening_words s))) (not (ltb q (leaf_count s))) _ z in
    let both = not-false (has store (store_words s) && has siblings (opening_words s)) P.lengths in
    record {
      set = P.before;
      store_long = first_long store siblings (store_words s) (opening_words s) both;
      siblings_long = second_long store siblings (store_words s) (opening_words s) both;
      place = ltb-true q (leaf_count s) (not-false (ltb q (leaf_count s)) P.place);
    }

pub record Verified (s : ParameterSet) (top : List ℕ) (q : ℕ) (leaf siblings : List ℕ) : Type 0 where
  pub set : first_refusal (set_refusals s) ≡ 0
  pub root_long : length top ≡ s.node_size
  pub leaf_long : length leaf ≡ s.node_size
  pub siblings_long : length siblings ≡ opening_words s

pub verify_numbered : (s : ParameterSet) (top : List ℕ) (q : ℕ) (leaf siblings : List ℕ) → Numbered (verify_refusals s top q leaf siblings)
unfolding verify_refusals
verify_numbered s top q leaf siblings = three.all_numbered (prime_of s) _ (set-numbered s) _ _ _

pub verify_passed : (s : ParameterSet) (top : List ℕ) (q : ℕ) (leaf siblings : List ℕ) → first_refusal (verify_refusals s top q leaf siblings) ≡ 0 → Verified s top q leaf siblings
unfolding verify_refusals
verify_passed s top q leaf siblings z =
    let P = three.passed (prime_of s) (set_refusals s) (set-numbered s) (not (has top s.node_size && has leaf s.node_size && has siblings (opening_words s))) (not (ltb q (leaf_count s))) _ z in
    let all = not-false (has top s.node_size && has leaf s.node_size && has siblings (opening_words s)) P.lengths in
    let two = left_true (has top s.node_size && has leaf s.node_size) (has siblings (opening_words s)) all in
    record {
      set = P.before;
      root_long = first_long top leaf s.node_size s.node_size two;
      leaf_long = second_long top leaf s.node_size s.node_size two;
      siblings_long = eqb-true (length siblings) (opening_words s) (right_true (has top s.node_size && has leaf s.node_size) (has siblings (opening_words s)) all);
    }
