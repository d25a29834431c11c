-- Verdicts that accept, and a place's own opening.
use mathlib.Core.Path.{◌≡◌, refl, sym, ap, subst, ◌∙◌}
use mathlib.Core.Bool.{Bool, true, false, not, cond, ◌&&◌}
use mathlib.Core.List.{List, [], ◌∷◌, ◌++◌}
use Prim.Native.Nat.{ℕ, ◌-◌, ◌<◌}
use native.Mathlib.Omega.{arith}
use lib.Dec.{ltb}
use lib.ListN.{length, get_or}
use borrow.Author.Tests.{ltb-true, lt-ltb, eq-eqb, not-false}
use Rattle.modular.specs.Arithmetic.{all_words}
use Rattle.modular.proofs.Words.{and_true, words_left, words_right, words_drop}
use Rattle.refusals.specs.Table.{first_refusal, done}
use Rattle.refusals.proofs.Table.{reply_done, written_after, reply_none, reply_result}
use Rattle.refusals.proofs.LengthsPlacesAndWords as three
use Rattle.parameters.specs.declared.ParameterSet.{ParameterSet}
use Rattle.parameters.specs.ParameterSet.{prime_of, set_refusals}
use Rattle.parameters.proofs.Accepted.{set-numbered}
use Rattle.merkle.specs.Levels.{root}
use Rattle.merkle.specs.Openings.{opening, accepts}
use Rattle.trees.specs.SetTrees.{tree_of_set, leaf_count, store_words, opening_words}
use Rattle.tree_entries.specs.Trees.{has, open_refusals, open_reply, opened, verify_refusals, verify_reply}
use Rattle.trees.proofs.SetTrees.{laws, root_long}
use Rattle.tree_entries.proofs.AcceptedTrees.{open_numbered, verify_numbered, verify_passed}
use Rattle.extraction_entries.proofs.AcceptedPairs.{Opening, verify_passes}
use Rattle.history.specs.LeafBook.{leaf_at}
use Rattle.history.specs.Demand3.{root_of}
use Rattle.history.proofs.Sets.{store_of, Leaves, words, store_long, store_words_lem, leaf_long, leaf_words_lem}

-- what an accepted verdict was handed
pub record Offered (s : ParameterSet) (top : List ℕ) (q : ℕ) (leaf siblings : List ℕ) : Type 0 where
  pub top_long : length top ≡ s.node_size
  pub top_words : all_words (prime_of s) top ≡ true
  pub inside : q < leaf_count s
  pub opening : Opening s leaf siblings
  pub ends : accepts (tree_of_set s) s.height top q leaf siblings ≡ true

module _ (s : ParameterSet) (top : List ℕ) (q : ℕ) (leaf siblings : List ℕ) where
  one_true : (b : Bool) → ◌≡◌ {A = ℕ} (cond b 1 0) 1 → b ≡ true
  one_true true e = refl
  one_true false e = absurd (omega arith)

  pub offered : verify_reply s top q leaf siblings ≡ done (1 ∷ []) → Offered s top q leaf siblings
  unfolding verify_reply verify_refusals
  offered e =
      let yes : Bool = accepts (tree_of_set s) s.height top q leaf siblings in
      let z = reply_none (verify_refusals s top q leaf siblings) (cond yes 1 0 ∷ []) (1 ∷ []) e in
      let D = verify_passed s top q leaf siblings z in
      let P = three.passed (prime_of s) (set_refusals s) (set-numbered s) (not (has top s.node_size && has leaf s.node_size && has siblings (opening_words s))) (not (ltb q (leaf_count s))) (top ++ (leaf ++ siblings)) z in
      let rest = words_right (prime_of s) top (leaf ++ siblings) P.words in
      let one : ◌≡◌ {A = ℕ} (cond yes 1 0) 1 = ap (λ (xs : List ℕ). get_or xs 0 0) (reply_result (verify_refusals s top q leaf siblings) (cond yes 1 0 ∷ []) (1 ∷ []) (verify_numbered s top q leaf siblings) e) in
      record {
        top_long = D.root_long;
        top_words = words_left (prime_of s) top (leaf ++ siblings) P.words;
        inside = ltb-true q (leaf_count s) (not-false (ltb q (leaf_count s)) P.place);
        opening = record {
          leaf_long = D.leaf_long;
          siblings_long = D.siblings_long;
          leaf_words_lem = words_left (prime_of s) leaf siblings rest;
          siblings_words = words_right (prime_of s) leaf siblings rest;
        };
        ends = one_true yes one;
      }

  pub verdict : first_refusal (set_refusals s) ≡ 0 → Offered s top q leaf siblings → verify_reply s top q leaf siblings ≡ done (1 ∷ [])
  unfolding verify_reply
  verdict valid O =
      let yes : Bool = accepts (tree_of_set s) s.height top q leaf siblings in
      reply_done (verify_refusals s top q leaf siblings) (cond yes 1 0 ∷ []) (verify_numbered s top q leaf siblings)
      (verify_passes s top q leaf siblings valid O.top_long O.top_words O.inside O.opening)
      ∙ ap (λ (b : Bool). done (cond b 1 0 ∷ [])) O.ends

-- a place's own leaf and opening, of the store built from the leaves
module _ (s : ParameterSet) (valid : first_refusal (set_refusals s) ≡ 0) (xs : List ℕ) (L : Leaves s xs) (q : ℕ) (inside : q < leaf_count s) where
  opening_long : length (opening (tree_of_set s) s.height q (store_of s xs)) ≡ opening_words s
  opening_long = ((laws s valid).opened s.height q (store_of s xs) (store_long s valid xs L) inside).long

  opening_words_lem : all_words (prime_of s) (opening (tree_of_set s) s.height q (store_of s xs)) ≡ true
  opening_words_lem = (words s valid).opened s.height q (store_of s xs) (store_words_lem s valid xs L)

  root_words : all_words (prime_of s) (root_of s (store_of s xs)) ≡ true
  unfolding root
  root_words = words_drop (prime_of s) (length (store_of s xs) - s.node_size) (store_of s xs) (store_words_lem s valid xs L)

  pub own_offered : Offered s (root_of s (store_of s xs)) q (leaf_at s q xs) (opening (tree_of_set s) s.height q (store_of s xs))
  own_offered =
      record {
        top_long = root_long s valid (store_of s xs) (store_long s valid xs L);
        top_words = root_words;
        inside = inside;
        opening = record {
          leaf_long = leaf_long s valid xs L q inside;
          siblings_long = opening_long;
          leaf_words_lem = leaf_words_lem s valid xs L q;
          siblings_words = opening_words_lem;
        };
        ends = ((laws s valid).own_opening s.height q xs L.long inside).accepted;
      }

  module _ (buffer : List ℕ) (e : length buffer ≡ opening_words s) where
    pub opens : open_reply s (store_of s xs) q buffer ≡ done []
    unfolding open_reply open_refusals
    opens =
        let store = store_of s xs in
        let z : first_refusal (open_refusals s store q buffer) ≡ 0 =
        three.at_words (prime_of s) (set_refusals s) (set-numbered s) (not (has store (store_words s) && has buffer (opening_words s))) (not (ltb q (leaf_count s))) (opening (tree_of_set s) s.height q store) valid
        (ap not (and_true (has store (store_words s)) (has buffer (opening_words s)) (eq-eqb (length store) (store_words s) (store_long s valid xs L)) (eq-eqb (length buffer) (opening_words s) e)))
        (ap not (lt-ltb q (leaf_count s) inside))
        ∙ three.no_twelve (prime_of s) (opening (tree_of_set s) s.height q store) opening_words_lem in
        reply_done (open_refusals s store q buffer) [] (open_numbered s store q buffer) z

    pub own_opened : opened s (store_of s xs) q buffer ≡ opening (tree_of_set s) s.height q (store_of s xs)
    unfolding opened
    own_opened = sym (written_after buffer (opening (tree_of_set s) s.height q (store_of s xs)) opens)

    pub own_taken : Offered s (root_of s (store_of s xs)) q (leaf_at s q xs) (opened s (store_of s xs) q buffer)
    own_taken = subst (Offered s (root_of s (store_of s xs)) q (leaf_at s q xs)) (sym own_opened) own_offered
