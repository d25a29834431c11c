-- A call on the store built from the book's leaves answers as the book does, and leaves the store built from the book's leaves after it.
use mathlib.Core.Path.{◌≡◌, refl, sym, ap, ap₂, ◌∙◌}
use mathlib.Core.Bool.{Bool, true, false, not, ◌&&◌}
use mathlib.Core.List.{List, [], ◌∷◌, ◌++◌}
use Prim.Native.Nat.{ℕ}
use lib.ListN.{length}
use borrow.Author.Tests.{eq-eqb}
use Rattle.modular.specs.Arithmetic.{all_words}
use Rattle.modular.proofs.Words.{words_append}
use Rattle.refusals.specs.Table.{Refusal, refusal, not_words, first_refusal, Reply, reply, after}
use Rattle.refusals.proofs.Table.{numbered_append}
use Rattle.refusals.proofs.LengthsPlacesAndWords as three
use Rattle.parameters.specs.declared.ParameterSet.{ParameterSet}
use Rattle.parameters.specs.ParameterSet.{prime_of, set_refusals}
use Rattle.parameters.proofs.Accepted.{set-numbered}
use Rattle.merkle.specs.Above.{nodes_above}
use Rattle.merkle.specs.Openings.{opening}
use Rattle.merkle.specs.Replacement as merkle
use Rattle.merkle.specs.Statements.{Replaced, Proper, Pushed}
use Rattle.repeats.specs.Repeats.{repeats}
use Rattle.trees.specs.SetTrees.{tree_of_set, leaf_count, store_words}
use Rattle.tree_entries.specs.Trees.{has, no_place}
use Rattle.trees.proofs.SetTrees.{laws}
use Rattle.change_entries.specs.Replacement.{replace_refusals, replace_reply, replaced}
use Rattle.change_entries.specs.Replacement as entry
use Rattle.records.specs.declared.record.Record.{Record}
use Rattle.records.specs.Records.{changes_of, places_of, places_below, used_words, SixWords}
use Rattle.records.proofs.Changes.{changes_places}
use Rattle.push_entries.specs.Pushes.{few_records, push_refusals, pushing, push_reply, pushed}
use Rattle.history.specs.LeafBook.{Call, replacement, push, book_refusals, book_count, book_reply, entered, book_after}
use Rattle.history.specs.History.{call_reply, call_store}
use Rattle.history.proofs.Replies.{same_reply, after_through}
use Rattle.history.proofs.Sets.{store_of, Leaves, words, store_long, store_words_lem}
use Rattle.history.proofs.Book.{book_numbered, changed_entered, Good, good, Fit, fit, leaf_fits, first_inside, rest_fits, replacement_leaves, push_leaves}

-- a list that ends in words is one of words where its beginning is
words_end : (p : ℕ) (xs ys : List ℕ) → all_words p ys ≡ true → all_words p (xs ++ ys) ≡ all_words p xs
words_end p xs ys e = go (all_words p xs) refl
  where
    go : (b : Bool) → all_words p xs ≡ b → all_words p (xs ++ ys) ≡ all_words p xs
    go true f = words_append p xs ys f e ∙ sym f
    go false f = three.left_not_words p xs ys f ∙ sym f

-- so with a store of words, of the right length, only a call's other arguments can be refused
without_store : (p : ℕ) (front : List Refusal) (long rest : Bool) (place : Refusal) (xs ys : List ℕ) (more : List Refusal) → long ≡ true → all_words p ys ≡ true
    → front ++ (refusal 10 (not (long && rest)) ∷ place ∷ not_words p (xs ++ ys) ∷ more) ≡ front ++ (refusal 10 (not rest) ∷ place ∷ not_words p xs ∷ more)
unfolding not_words
without_store p front long rest place xs ys more e w =
    let f : (long && rest) ≡ rest = rw e in
    ap₂ (λ (a b : Bool). front ++ (refusal 10 (not a) ∷ place ∷ refusal 12 (not b) ∷ more)) f (words_end p xs ys w)

-- what a call and the book agree on
pub record Follows (s : ParameterSet) (c : Call) (xs : List ℕ) : Type 0 where
  pub answers : call_reply s c (store_of s xs) ≡ book_reply s c
  pub store : call_store s c (store_of s xs) ≡ store_of s (book_after s c xs)
  pub leaves : Leaves s (book_after s c xs)

module _ (s : ParameterSet) (valid : first_refusal (set_refusals s) ≡ 0) where
  -- an entry whose refusals are the set's and then the book's
  module _ (c : Call) (xs : List ℕ) (L : Leaves s xs) where
    agreed : (rows : List Refusal) (made : ℕ) → rows ≡ set_refusals s ++ book_refusals s c → (first_refusal (book_refusals s c) ≡ 0 → made ≡ book_count s c)
        → reply rows (made ∷ []) ≡ book_reply s c
    unfolding book_reply
    agreed rows made e f =
        ap (λ (r : List Refusal). reply r (made ∷ [])) e
        ∙ same_reply (set_refusals s) (book_refusals s c) (made ∷ []) (book_count s c ∷ []) (set-numbered s) valid (book_numbered s c) (numbered_append (set-numbered s) (book_numbered s c))
        (λ z. ap (λ (n : ℕ). n ∷ []) (f z))

    left : (r : Reply) (new : List ℕ) → r ≡ book_reply s c → (first_refusal (book_refusals s c) ≡ 0 → new ≡ store_of s (entered s c xs))
        → after r (store_of s xs) new ≡ store_of s (book_after s c xs)
    unfolding book_after book_reply
    left r new e f =
        ap (λ (a : Reply). after a (store_of s xs) new) e
        ∙ after_through (store_of s) (book_refusals s c) (book_count s c ∷ []) xs (entered s c xs) new (book_numbered s c) f

  -- ---- one replacement
  module _ (xs : List ℕ) (L : Leaves s xs) (q : ℕ) (leaf : List ℕ) where
    work : Good s q leaf → Replaced (tree_of_set s) s.height q xs leaf
    work g = (laws s valid).replaced s.height q xs leaf L.long g.inside g.long

    pub replacement_follows : Follows s (replacement q leaf) xs
    unfolding call_reply call_store book_refusals book_count entered replace_refusals replace_reply replaced
    replacement_follows =
        let c : Call = replacement q leaf in
        let S = tree_of_set s in
        let rows : replace_refusals s (store_of s xs) q leaf ≡ set_refusals s ++ book_refusals s c =
        without_store (prime_of s) (set_refusals s) (has (store_of s xs) (store_words s)) (has leaf s.node_size) (no_place s q) leaf (opening S s.height q (store_of s xs)) []
        (eq-eqb (length (store_of s xs)) (store_words s) (store_long s valid xs L))
        ((words s valid).opened s.height q (store_of s xs) (store_words_lem s valid xs L)) in
        let answer = agreed c xs L (replace_refusals s (store_of s xs) q leaf) (entry.replacement s (store_of s xs) q leaf).made rows (λ z. (work (good s q leaf z)).counted) in
        record {
          answers = answer;
          store = left c xs L (replace_reply s (store_of s xs) q leaf) (entry.replacement s (store_of s xs) q leaf).store answer (λ z. (work (good s q leaf z)).stored);
          leaves = replacement_leaves s valid xs L q leaf;
        }

  -- ---- a push

  proper : (rs : List Record) → Fit s rs → Proper (tree_of_set s) s.height (changes_of s.node_size rs)
  unfolding changes_of
  proper [] F = tt
  proper (r ∷ rs) F = (first_inside s valid r rs F, leaf_fits s valid r F.sixes.0, proper rs (rest_fits s valid r rs F))

  module _ (xs : List ℕ) (L : Leaves s xs) (rs : List Record) (sixes : SixWords rs) where
    works : Fit s rs → Pushed (tree_of_set s) s.height (changes_of s.node_size rs) xs
    works F = (laws s valid).pushed s.height (changes_of s.node_size rs) xs L.long (proper rs F)

    pub push_follows : Follows s (push rs) xs
    unfolding call_reply call_store book_refusals book_count entered push_refusals push_reply pushed merkle.push
    push_follows =
        let c : Call = push rs in
        let S = tree_of_set s in
        let rows : push_refusals s (store_of s xs) rs ≡ set_refusals s ++ book_refusals s c =
        without_store (prime_of s) (set_refusals s) (has (store_of s xs) (store_words s)) (few_records rs) (refusal 11 (not (places_below (leaf_count s) rs))) (used_words s.node_size rs) (store_of s xs) (refusal 17 (repeats (places_of rs)) ∷ [])
        (eq-eqb (length (store_of s xs)) (store_words s) (store_long s valid xs L))
        (store_words_lem s valid xs L) in
        let answer = agreed c xs L (push_refusals s (store_of s xs) rs) (pushing s (store_of s xs) rs).made rows
        (λ z. ap (nodes_above (tree_of_set s).arity s.height) (changes_places s.node_size rs)) in
        record {
          answers = answer;
          store =
              left c xs L (push_reply s (store_of s xs) rs) (pushing s (store_of s xs) rs).store answer
              (λ z. works (fit s rs sixes z) ∙ ap (store_of s) (changed_entered s valid rs xs));
          leaves = push_leaves s valid xs L rs sixes;
        }
