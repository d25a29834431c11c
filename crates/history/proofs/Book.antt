-- What the book accepts, and that it holds k^h leaves of words.
use mathlib.Core.Path.{◌≡◌, refl, ◌∙◌}
use mathlib.Core.Bool.{true, not}
use mathlib.Core.List.{List, [], ◌∷◌}
use Prim.Native.Nat.{ℕ, ◌*◌, ◌<◌}
use native.Mathlib.Omega.{arith}
use lib.Dec.{lit<, ltb}
use lib.ListN.{length}
use lib.Seq.{length-take-le}
use borrow.Author.Tests.{eqb-true, ltb-true, not-false}
use Rattle.modular.specs.Arithmetic.{all_words}
use Rattle.modular.proofs.Words.{left_true, right_true, words_left, words_right}
use Rattle.refusals.specs.Table.{not_words, first_refusal}
use Rattle.refusals.proofs.Table.{Numbered, none, next, first_none}
use Rattle.refusals.proofs.LengthsPlacesAndWords as three
use Rattle.parameters.specs.declared.ParameterSet.{ParameterSet}
use Rattle.parameters.specs.ParameterSet.{prime_of, set_refusals}
use Rattle.merkle.specs.Lists.{put}
use Rattle.merkle.specs.Replacement.{changed}
use Rattle.merkle.proofs.Lists.{length-put, words_put}
use Rattle.merkle.proofs.Levels.{fits}
use Rattle.trees.specs.SetTrees.{tree_of_set, leaf_count}
use Rattle.tree_entries.specs.Trees.{has}
use Rattle.records.specs.declared.record.Record.{Record}
use Rattle.records.specs.Records.{leaf_of, changes_of, places_below, used_words, SixWords}
use Rattle.push_entries.specs.Pushes.{few_records}
use Rattle.history.specs.LeafBook.{Call, replacement, push, enter_all, book_refusals, book_count, book_reply, entered, book_after}
use Rattle.history.proofs.Replies.{after_holds}
use Rattle.history.proofs.Sets.{Leaves, six}

pub book_numbered : (s : ParameterSet) (c : Call) → Numbered (book_refusals s c)
unfolding book_refusals not_words
book_numbered s (replacement q leaf) = next (lit< tt) (next (lit< tt) (next (lit< tt) none))
book_numbered s (push rs) = next (lit< tt) (next (lit< tt) (next (lit< tt) (next (lit< tt) none)))

-- a replacement that it accepts
pub record Good (s : ParameterSet) (q : ℕ) (leaf : List ℕ) : Type 0 where
  pub long : length leaf ≡ s.node_size
  pub inside : q < leaf_count s
  pub wordy : all_words (prime_of s) leaf ≡ true

pub good : (s : ParameterSet) (q : ℕ) (leaf : List ℕ) → first_refusal (book_refusals s (replacement q leaf)) ≡ 0 → Good s q leaf
unfolding book_refusals
good s q leaf z =
    let P = three.passed (prime_of s) [] none (not (has leaf s.node_size)) (not (ltb q (leaf_count s))) leaf z in
    record {
      long = eqb-true (length leaf) s.node_size (not-false (has leaf s.node_size) P.lengths);
      inside = ltb-true q (leaf_count s) (not-false (ltb q (leaf_count s)) P.place);
      wordy = P.words;
    }

-- and a push: its records are in place, of words
pub record Fit (s : ParameterSet) (rs : List Record) : Type 0 where
  pub sixes : SixWords rs
  pub inside : places_below (leaf_count s) rs ≡ true
  pub wordy : all_words (prime_of s) (used_words s.node_size rs) ≡ true

pub fit : (s : ParameterSet) (rs : List Record) → SixWords rs → first_refusal (book_refusals s (push rs)) ≡ 0 → Fit s rs
unfolding book_refusals
fit s rs sixes z =
    let early = first_none (three.all (prime_of s) [] none (not (few_records rs)) (not (places_below (leaf_count s) rs)) (used_words s.node_size rs)) _
    (three.all_numbered (prime_of s) [] none _ _ _) z in
    let P = three.passed (prime_of s) [] none (not (few_records rs)) (not (places_below (leaf_count s) rs)) (used_words s.node_size rs) early.0 in
    record { sixes = sixes; inside = not-false (places_below (leaf_count s) rs) P.place; wordy = P.words }

module _ (s : ParameterSet) (valid : first_refusal (set_refusals s) ≡ 0) where
  -- a leaf of words that goes to its place
  pub put_leaves : (xs : List ℕ) → Leaves s xs → (q : ℕ) (leaf : List ℕ) → q < leaf_count s → length leaf ≡ s.node_size → all_words (prime_of s) leaf ≡ true
      → Leaves s (put xs (q * s.node_size) leaf)
  put_leaves xs L q leaf b e w =
      record {
        long = length-put xs (q * s.node_size) leaf (omega (arith, fits s.node_size (leaf_count s) q b, L.long)) ∙ L.long;
        wordy = words_put (prime_of s) xs (q * s.node_size) leaf L.wordy w;
      }

  pub leaf_fits : (r : Record) → length r.words ≡ 6 → length (leaf_of s.node_size r) ≡ s.node_size
  leaf_fits r e = length-take-le s.node_size r.words (omega (arith, six s valid))

  pub first_inside : (r : Record) (rs : List Record) → Fit s (r ∷ rs) → r.place < leaf_count s
  unfolding places_below
  first_inside r rs F = ltb-true r.place (leaf_count s) (left_true (ltb r.place (leaf_count s)) (places_below (leaf_count s) rs) F.inside)

  pub rest_fits : (r : Record) (rs : List Record) → Fit s (r ∷ rs) → Fit s rs
  unfolding places_below used_words
  rest_fits r rs F =
      record {
        sixes = F.sixes.1;
        inside = right_true (ltb r.place (leaf_count s)) (places_below (leaf_count s) rs) F.inside;
        wordy = words_right (prime_of s) (leaf_of s.node_size r) (used_words s.node_size rs) F.wordy;
      }

  -- each record's leaf at its place, in order
  pub changed_entered : (rs : List Record) (xs : List ℕ) → changed (tree_of_set s) (changes_of s.node_size rs) xs ≡ enter_all s rs xs
  unfolding changed changes_of enter_all
  changed_entered [] xs = refl
  changed_entered (r ∷ rs) xs = changed_entered rs (put xs (r.place * s.node_size) (leaf_of s.node_size r))

  enter_leaves : (rs : List Record) (xs : List ℕ) → Fit s rs → Leaves s xs → Leaves s (enter_all s rs xs)
  unfolding enter_all used_words
  enter_leaves [] xs F L = L
  enter_leaves (r ∷ rs) xs F L =
      enter_leaves rs (put xs (r.place * s.node_size) (leaf_of s.node_size r)) (rest_fits r rs F)
      (put_leaves xs L r.place (leaf_of s.node_size r) (first_inside r rs F) (leaf_fits r F.sixes.0)
      (words_left (prime_of s) (leaf_of s.node_size r) (used_words s.node_size rs) F.wordy))

  -- the book's leaves after a call
  pub replacement_leaves : (xs : List ℕ) → Leaves s xs → (q : ℕ) (leaf : List ℕ) → Leaves s (book_after s (replacement q leaf) xs)
  unfolding book_after book_reply entered
  replacement_leaves xs L q leaf =
      after_holds (Leaves s) (book_refusals s (replacement q leaf)) (book_count s (replacement q leaf) ∷ []) xs (put xs (q * s.node_size) leaf) (book_numbered s (replacement q leaf)) L
      (λ z. let g = good s q leaf z in put_leaves xs L q leaf g.inside g.long g.wordy)

  pub push_leaves : (xs : List ℕ) → Leaves s xs → (rs : List Record) → SixWords rs → Leaves s (book_after s (push rs) xs)
  unfolding book_after book_reply entered
  push_leaves xs L rs sixes =
      after_holds (Leaves s) (book_refusals s (push rs)) (book_count s (push rs) ∷ []) xs (enter_all s rs xs) (book_numbered s (push rs)) L
      (λ z. enter_leaves rs xs (fit s rs sixes z) L)
