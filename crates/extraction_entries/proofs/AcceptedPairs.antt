-- Two leaves with their openings to which none of refusals 1 to 12 applies.
use mathlib.Core.Path.{◌≡◌, ap, ◌∙◌}
use mathlib.Core.Bool.{Bool, true, not, ◌&&◌}
use mathlib.Core.List.{List, ◌++◌}
use Prim.Native.Nat.{ℕ, ◌<◌}
use borrow.Author.Tests.{eqb-true, eq-eqb, ltb-true, lt-ltb, not-false}
use lib.Dec.{lit<, ltb}
use lib.ListN.{length}
use Rattle.modular.specs.Arithmetic.{all_words}
use Rattle.modular.proofs.Words.{and_true, left_true, right_true, words_left, words_right, words_append}
use Rattle.refusals.specs.Table.{first_refusal}
use Rattle.refusals.proofs.Table.{Numbered, none, next, numbered_append}
use Rattle.refusals.proofs.LengthsAndWords.{both_good}
use Rattle.refusals.proofs.LengthsPlacesAndWords.{at_words, no_twelve}
use Rattle.refusals.proofs.LengthsPlacesAndWords as three
use Rattle.parameters.specs.declared.ParameterSet.{ParameterSet}
use Rattle.parameters.specs.ParameterSet.{prime_of, set_refusals}
use Rattle.parameters.proofs.Accepted.{set-numbered}
use Rattle.trees.specs.SetTrees.{leaf_count, opening_words}
use Rattle.tree_entries.specs.Trees.{has, verify_refusals}
use Rattle.tree_entries.proofs.AcceptedTrees.{first_long, second_long}
use Rattle.extraction_entries.specs.Extraction.{Pair, opens, pair_fits, pair_refusals, extract_refusals}

-- a leaf with its siblings
pub record Opening (s : ParameterSet) (leaf siblings : List ℕ) : Type 0 where
  pub leaf_long : length leaf ≡ s.node_size
  pub siblings_long : length siblings ≡ opening_words s
  pub leaf_words_lem : all_words (prime_of s) leaf ≡ true
  pub siblings_words : all_words (prime_of s) siblings ≡ true

opens_true : {s : ParameterSet} {leaf siblings : List ℕ} → Opening s leaf siblings → opens s leaf siblings ≡ true
opens_true O = and_true _ _ (eq-eqb _ _ O.leaf_long) (eq-eqb _ _ O.siblings_long)

pub record Paired (s : ParameterSet) (two : Pair) (first second : List ℕ) : Type 0 where
  pub set : first_refusal (set_refusals s) ≡ 0
  pub root_long : length two.root ≡ s.node_size
  pub root_words : all_words (prime_of s) two.root ≡ true
  pub place : two.place < leaf_count s
  pub opening : Opening s two.first_leaf two.first_siblings
  pub other : Opening s two.second_leaf two.second_siblings
  pub first_long : length first ≡ s.width
  pub second_long : length second ≡ s.width

module _ (s : ParameterSet) (two : Pair) (first second : List ℕ) where
  open two use {root as top, place as q, first_leaf as a, first_siblings as xs, second_leaf as b, second_siblings as ys}

  pub pair_numbered : Numbered (pair_refusals s two first second)
  unfolding pair_refusals
  pair_numbered = three.all_numbered (prime_of s) _ (set-numbered s) _ _ _

  pub extract_numbered : Numbered (extract_refusals s two first second)
  unfolding extract_refusals
  extract_numbered = numbered_append pair_numbered (next (lit< tt) (next (lit< tt) none))

  pub pair_passed : first_refusal (pair_refusals s two first second) ≡ 0 → Paired s two first second
  unfolding pair_refusals pair_fits
  pair_passed z =
      let l = s.node_size in
      let n = opening_words s in
      let rows : Bool = has first s.width && has second s.width in
      let later : Bool = opens s b ys && rows in
      let P = three.passed (prime_of s) (set_refusals s) (set-numbered s) (not (has top l && (opens s a xs && later))) (not (ltb q (leaf_count s))) (top ++ (a ++ (xs ++ (b ++ ys)))) z in
      let all = not-false (has top l && (opens s a xs && later)) P.lengths in
      let behind = right_true (has top l) (opens s a xs && later) all in
      let one = left_true (opens s a xs) later behind in
      let rest = right_true (opens s a xs) later behind in
      let other = left_true (opens s b ys) rows rest in
      let buffers = right_true (opens s b ys) rows rest in
      let w = words_right (prime_of s) top (a ++ (xs ++ (b ++ ys))) P.words in
      let v = words_right (prime_of s) a (xs ++ (b ++ ys)) w in
      let u = words_right (prime_of s) xs (b ++ ys) v in
      record {
        set = P.before;
        root_long = eqb-true (length top) l (left_true (has top l) (opens s a xs && later) all);
        root_words = words_left (prime_of s) top (a ++ (xs ++ (b ++ ys))) P.words;
        place = ltb-true q (leaf_count s) (not-false (ltb q (leaf_count s)) P.place);
        opening = record {
          leaf_long = first_long a xs l n one;
          siblings_long = second_long a xs l n one;
          leaf_words_lem = words_left (prime_of s) a (xs ++ (b ++ ys)) w;
          siblings_words = words_left (prime_of s) xs (b ++ ys) v;
        };
        other = record {
          leaf_long = first_long b ys l n other;
          siblings_long = second_long b ys l n other;
          leaf_words_lem = words_left (prime_of s) b ys u;
          siblings_words = words_right (prime_of s) b ys u;
        };
        first_long = first_long first second s.width s.width buffers;
        second_long = second_long first second s.width s.width buffers;
      }

  pub pair_passes : Paired s two first second → first_refusal (pair_refusals s two first second) ≡ 0
  unfolding pair_refusals pair_fits
  pair_passes P =
      at_words (prime_of s) _ (set-numbered s) _ _ _ P.set
      (ap not (and_true _ _ (eq-eqb _ _ P.root_long) (and_true _ _ (opens_true P.opening) (and_true _ _ (opens_true P.other) (and_true _ _ (eq-eqb _ _ P.first_long) (eq-eqb _ _ P.second_long))))))
      (ap not (lt-ltb _ _ P.place))
      ∙ no_twelve (prime_of s) _ (words_append (prime_of s) _ _ P.root_words (words_append (prime_of s) _ _ P.opening.leaf_words_lem (words_append (prime_of s) _ _ P.opening.siblings_words (words_append (prime_of s) _ _ P.other.leaf_words_lem P.other.siblings_words))))

-- the verdict on such an opening is not a refusal
pub verify_passes : (s : ParameterSet) (top : List ℕ) (q : ℕ) (leaf siblings : List ℕ) → first_refusal (set_refusals s) ≡ 0 → length top ≡ s.node_size → all_words (prime_of s) top ≡ true
    → q < leaf_count s → Opening s leaf siblings → first_refusal (verify_refusals s top q leaf siblings) ≡ 0
unfolding verify_refusals
verify_passes s top q leaf siblings z e w i O =
    at_words (prime_of s) _ (set-numbered s) _ _ _ z
    (both_good _ _ (and_true _ _ (eq-eqb _ _ e) (eq-eqb _ _ O.leaf_long)) (eq-eqb _ _ O.siblings_long)) (ap not (lt-ltb _ _ i))
    ∙ no_twelve (prime_of s) _ (words_append (prime_of s) _ _ w (words_append (prime_of s) _ _ O.leaf_words_lem O.siblings_words))

-- so where a pair passes refusals 1 to 12 either opening does
module _ (s : ParameterSet) (two : Pair) (first second : List ℕ) (none : first_refusal (pair_refusals s two first second) ≡ 0) where
  pub first_passes : first_refusal (verify_refusals s two.root two.place two.first_leaf two.first_siblings) ≡ 0
  first_passes =
      let A = pair_passed s two first second none in
      verify_passes s two.root two.place two.first_leaf two.first_siblings A.set A.root_long A.root_words A.place A.opening

  pub second_passes : first_refusal (verify_refusals s two.root two.place two.second_leaf two.second_siblings) ≡ 0
  second_passes =
      let A = pair_passed s two first second none in
      verify_passes s two.root two.place two.second_leaf two.second_siblings A.set A.root_long A.root_words A.place A.other
