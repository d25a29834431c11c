-- The tree of a set that is not refused, and the leaves of a book: k^h leaves of words.
use mathlib.Core.Path.{◌≡◌, sym, ap}
use mathlib.Core.Bool.{true, not, ◌&&◌}
use mathlib.Core.List.{List, []}
use Prim.Native.Nat.{ℕ, ◌*◌, ◌≤◌, ◌<◌}
use native.Mathlib.Omega.{arith}
use lib.ListN.{length}
use borrow.Author.Tests.{eq-eqb}
use Rattle.modular.specs.Arithmetic.{all_words}
use Rattle.modular.proofs.Words.{and_true}
use Rattle.refusals.specs.Table.{first_refusal, done}
use Rattle.refusals.proofs.Table.{reply_done, written_after, reply_none}
use Rattle.refusals.proofs.LengthsAndWords as two
use Rattle.parameters.specs.declared.ParameterSet.{ParameterSet}
use Rattle.parameters.specs.ParameterSet.{prime_of, set_refusals}
use Rattle.parameters.proofs.Accepted.{set-numbered}
use Rattle.merkle.specs.Levels.{KeepsWords, build}
use Rattle.merkle.specs.Statements.{WordLaws}
use Rattle.merkle.proofs.Lists.{words_part_lem, length_part}
use Rattle.merkle.proofs.Levels.{fits}
use Rattle.merkle.proofs.Statements.{word_laws}
use Rattle.trees.proofs.Shapes.{keeps_words, node_small}
use Rattle.trees.specs.SetTrees.{tree_of_set, leaf_count, leaf_words, store_words}
use Rattle.tree_entries.specs.Trees.{has, build_refusals, build_reply, built}
use Rattle.trees.proofs.SetTrees.{valid_numbers, shape_regular, laws}
use Rattle.tree_entries.proofs.AcceptedTrees.{build_numbered, build_passed}
use Rattle.history.specs.LeafBook.{leaf_at}

module _ (s : ParameterSet) (valid : first_refusal (set_refusals s) ≡ 0) where
  -- a leaf has room in a record (Rules 5.3)
  pub six : s.node_size ≤ 6
  six = node_small (valid_numbers s valid)

  pub keeps : KeepsWords (prime_of s) (tree_of_set s)
  keeps = keeps_words (valid_numbers s valid) s.diagonal s.constants

  pub words : WordLaws (prime_of s) (tree_of_set s)
  words = word_laws (tree_of_set s) (shape_regular s valid) (prime_of s) keeps

-- the store that building writes from a list of leaves
abbrev pub store_of : ParameterSet → List ℕ → List ℕ
store_of s xs = build (tree_of_set s) s.height xs

-- what a list of leaves is
pub record Leaves (s : ParameterSet) (xs : List ℕ) : Type 0 where
  pub long : length xs ≡ leaf_words s
  pub wordy : all_words (prime_of s) xs ≡ true

-- the store that building wrote, where it was not refused
pub record Begun (s : ParameterSet) (leaves store : List ℕ) : Type 0 where
  pub set : first_refusal (set_refusals s) ≡ 0
  pub given : Leaves s leaves
  pub written : built s leaves store ≡ store_of s leaves

pub begun : (s : ParameterSet) (leaves store : List ℕ) → build_reply s leaves store ≡ done [] → Begun s leaves store
unfolding build_reply build_refusals built
begun s leaves store e =
    let z = reply_none (build_refusals s leaves store) [] [] e in
    let B = build_passed s leaves store z in
    let P = two.passed (prime_of s) (set_refusals s) (set-numbered s) (not (has leaves (leaf_words s) && has store (store_words s))) leaves z in
    record {
      set = B.set;
      given = record { long = B.leaves_long; wordy = P.words };
      written = sym (written_after store (store_of s leaves) e);
    }

module _ (s : ParameterSet) (valid : first_refusal (set_refusals s) ≡ 0) (xs : List ℕ) (L : Leaves s xs) where
  pub store_long : length (store_of s xs) ≡ store_words s
  store_long = ((laws s valid).building s.height xs L.long).is_store.whole

  pub store_words_lem : all_words (prime_of s) (store_of s xs) ≡ true
  store_words_lem = (words s valid).built s.height xs L.long L.wordy

  -- building writes it into any store of the exact length
  pub builds : (buffer : List ℕ) → length buffer ≡ store_words s → build_reply s xs buffer ≡ done []
  unfolding build_reply build_refusals
  builds buffer e =
      reply_done (build_refusals s xs buffer) [] (build_numbered s xs buffer)
      (two.at_none (prime_of s) (set_refusals s) (set-numbered s) (not (has xs (leaf_words s) && has buffer (store_words s))) xs valid
      (ap not (and_true (has xs (leaf_words s)) (has buffer (store_words s)) (eq-eqb (length xs) (leaf_words s) L.long) (eq-eqb (length buffer) (store_words s) e)))
      L.wordy)

  pub leaf_long : (q : ℕ) → q < leaf_count s → length (leaf_at s q xs) ≡ s.node_size
  leaf_long q b =
      length_part (q * s.node_size) s.node_size xs (omega (arith, fits s.node_size (leaf_count s) q b, L.long))

  pub leaf_words_lem : (q : ℕ) → all_words (prime_of s) (leaf_at s q xs) ≡ true
  leaf_words_lem q = words_part_lem (prime_of s) (q * s.node_size) s.node_size xs L.wordy
