-- What the loops keep that mark the nodes above a place and that rewrite marked nodes; and where a level's nodes and rows stand.
use mathlib.Core.Path.{◌≡◌, refl, sym, ap, ◌∙◌}
use mathlib.Core.Bool.{Bool, true, false, cond}
use mathlib.Core.List.{List, []}
use Prim.Native.Nat.{ℕ, suc, ◌+◌, ◌*◌, ◌-◌, ◌/◌, ◌^◌, ◌≤◌, ◌<◌}
use native.Mathlib.Nat.{one-le-pow}
use native.Mathlib.Omega.{arith}
use lib.ListN.{length, length-set}
use lib.Seq.{take_all}
use Rattle.merkle.specs.Lists.{part, put}
use Rattle.merkle.specs.Levels.{Shape, Regular, size}
use Rattle.merkle.specs.Marks.{is_marked, mark_node, mark_above, mark_change, rewrite_marked, sweep}
use Rattle.merkle.specs.Numbering.{inner, write_node}
use Rattle.merkle.specs.Openings.{over}
use Rattle.merkle.specs.Replacement.{Counted}
use Rattle.merkle.proofs.Numbering.{number_inner, row_before, node_inside}
use Rattle.merkle.proofs.Openings.{over_below}
use Rattle.merkle.proofs.Replacement.{leaf_fits}
use Rattle.trees.specs.declared.Dimensions.{Dimensions}
use Rattle.trees.specs.Shapes.{tree, ValidNumbers, counted}
use Rattle.trees.proofs.Ascent.{Over, over_leaf, over_next}
use Rattle.trees.proofs.Rows.{number_small, length-written, count_more}
use Rattle.trees.proofs.Shapes.{regular}
use Rattle.marks.specs.Marks.{mark, Rank}

-- ---- a node

module _ (S : Shape) (w n : ℕ) (s : Counted) where
  pub passed : is_marked S mark w n s.store ≡ false → s ≡ rewrite_marked S mark w n s
  unfolding rewrite_marked
  passed e = rw e

  pub rewritten : is_marked S mark w n s.store ≡ true → write_node S w n s ≡ rewrite_marked S mark w n s
  unfolding rewrite_marked
  rewritten e = rw e

pub length_marked : (S : Shape) (w n : ℕ) (store : List ℕ) → length (mark_node S mark w n store) ≡ length store
unfolding mark_node
length_marked S w n store = length-set store ((w + n) * S.node_size) mark

-- ---- the nodes above a place

-- What is still to be marked from the node of this number on gives what is wanted of the whole.
pub record Rising (d : Dimensions) (q : ℕ) (begun : List ℕ) (level number : ℕ) (store : List ℕ) : Type 0 where
  pub at : Over d [] [] (length store) q level number
  pub left : (D C : List ℕ) → mark_above (tree d D C) mark (d.arity ^ d.height) (d.height - level) number store ≡ mark_above (tree d D C) mark (d.arity ^ d.height) d.height q begun

pub rising_none : {d : Dimensions} {q : ℕ} (begun : List ℕ) → ValidNumbers d → length begun ≡ size (tree d [] []) d.height → q < d.arity ^ d.height
    → Rising d q begun 0 q begun
rising_none {d} {q} begun v e b =
    let z : d.height - 0 ≡ d.height = omega arith in
    record { at = over_leaf v e b; left = λ D C. ap (λ (i : ℕ). mark_above (tree d D C) mark (d.arity ^ d.height) i q begun) z }

module _ {d : Dimensions} {q : ℕ} {begun : List ℕ} {level number : ℕ} (store : List ℕ) (R : Rising d q begun level number store) where
  module _ (b : level < d.height) (w : ℕ) (e : w ≡ d.arity ^ d.height) where
    one_more_lem : (D C : List ℕ)
        → cond (is_marked (tree d D C) mark w (number / d.arity) store) store
        (mark_above (tree d D C) mark w (d.height - (level + 1)) (w + number / d.arity) (mark_node (tree d D C) mark w (number / d.arity) store))
        ≡ mark_above (tree d D C) mark (d.arity ^ d.height) d.height q begun
    unfolding mark_above
    one_more_lem D C =
        let z : suc (d.height - (level + 1)) ≡ d.height - level = omega arith in
        ap (λ (i : ℕ). mark_above (tree d D C) mark w i number store) z
        ∙ ap (λ (x : ℕ). mark_above (tree d D C) mark x (d.height - level) number store) e
        ∙ R.left D C

    -- a node that is marked ends it
    pub rising_ends : ((D C : List ℕ) → true ≡ is_marked (tree d D C) mark w (number / d.arity) store)
        → (D C : List ℕ) → store ≡ mark_above (tree d D C) mark (d.arity ^ d.height) d.height q begun
    rising_ends m D C = rw (sym (m D C)) at (one_more_lem D C)

    -- another is marked
    pub rising_more : ((D C : List ℕ) → false ≡ is_marked (tree d D C) mark w (number / d.arity) store)
        → (after : List ℕ) → ((D C : List ℕ) → after ≡ mark_node (tree d D C) mark w (number / d.arity) store)
        → Rising d q begun (level + 1) (w + number / d.arity) after
    rising_more m after f =
        record {
          at = rw (f [] [], length_marked (tree d [] []) w (number / d.arity) store) (over_next R.at b w e);
          left =
              λ D C.
              ap (λ (x : ℕ). mark_above (tree d D C) mark x (d.height - (level + 1)) (w + number / d.arity) after) (sym e)
              ∙ ap (mark_above (tree d D C) mark w (d.height - (level + 1)) (w + number / d.arity)) (f D C)
              ∙ (rw (sym (m D C)) at (one_more_lem D C));
        }

  pub rising_all : d.height ≤ level → (D C : List ℕ) → store ≡ mark_above (tree d D C) mark (d.arity ^ d.height) d.height q begun
  unfolding mark_above
  rising_all b D C =
      let z : 0 ≡ d.height - level = omega arith in
      ap (λ (i : ℕ). mark_above (tree d D C) mark (d.arity ^ d.height) i number store) z ∙ R.left D C

-- ---- a leaf

module _ {d : Dimensions} (v : ValidNumbers d) (old leaf : List ℕ) (q : ℕ) (inside : q < d.arity ^ d.height) (lf : length leaf ≡ d.node_size)
    (lo : (D C : List ℕ) → length old ≡ size (tree d D C) d.height) where
  pub leaf_inside : q * d.node_size + d.node_size ≤ length old
  leaf_inside = omega (arith, leaf_fits (tree d [] []) (regular v [] []) d.height q inside leaf old lf (lo [] []))

  module _ (begun : List ℕ) (e : begun ≡ put old (q * d.node_size) (part 0 d.node_size leaf)) where
    leaf_put : begun ≡ put old (q * d.node_size) leaf
    leaf_put = e ∙ ap (put old (q * d.node_size)) (take_all d.node_size leaf (omega arith))

    pub leaf_marked : (after : List ℕ) → ((D C : List ℕ) → after ≡ mark_above (tree d D C) mark (d.arity ^ d.height) d.height q begun)
        → (D C : List ℕ) → after ≡ mark_change (tree d D C) mark d.height (record { place = q; leaf = leaf }) old
    unfolding mark_change
    leaf_marked after f D C = f D C ∙ ap (mark_above (tree d D C) mark (d.arity ^ d.height) d.height q) leaf_put

-- ---- nodes by their numbers

-- row n and the node above it are inside a store
module _ {d : Dimensions} (v : ValidNumbers d) (D C store : List ℕ) (e : length store ≡ size (tree d D C) d.height) (n : ℕ) (b : n < inner (tree d D C) d.height) where
  pub row_inside : n * (d.arity * d.node_size) + d.arity * d.node_size ≤ length store
  row_inside =
      omega (arith, row_before (tree d D C) (regular v D C) d.height n b, node_inside (tree d D C) (regular v D C) d.height n b)

  pub node_there : (w : ℕ) → w ≡ d.arity ^ d.height → (w + n) * d.node_size + d.node_size ≤ length store
  node_there w f = rw f (omega (arith, node_inside (tree d D C) (regular v D C) d.height n b))

  pub row_small : n < length store
  row_small = omega (arith, number_small (tree d D C) (regular v D C) (d.arity ^ d.height + n) (length store) (node_there (d.arity ^ d.height) refl))

-- the row of a place on a level
module _ {d : Dimensions} (v : ValidNumbers d) {before under : ℕ} (R : Rank d before under) where
  pub some_under : 0 < under
  some_under = omega (arith, R.places, one-le-pow (suc R.level) d.arity (omega (arith, v.several)))

  pub row_inner : (D C : List ℕ) (q : ℕ) → q < d.arity ^ d.height → before + q / under < inner (tree d D C) d.height
  row_inner D C q inside =
      rw (R.places, R.rows D C)
      (number_inner (tree d D C) (regular v D C) d.height R.level (over (tree d D C) q (suc R.level)) R.low
      (over_below (tree d D C) (regular v D C) d.height q (suc R.level) inside R.low))

-- ---- a rewriting, whether or not the node is marked

module _ (S : Shape) (G : Regular S) (w n : ℕ) (store : List ℕ) (made : ℕ) (inside : n * (S.arity * S.node_size) + S.arity * S.node_size ≤ length store)
    (there : (w + n) * S.node_size + S.node_size ≤ length store) where
  pub length-rewritten : length (rewrite_marked S mark w n (counted store made)).store ≡ length store
  unfolding rewrite_marked
  length-rewritten = go (is_marked S mark w n store)
    where
      go : (t : Bool) → length (cond t (write_node S w n (counted store made)) (counted store made)).store ≡ length store
      go true = length-written S G store n inside w made there
      go false = refl

  pub made_rewritten : (rewrite_marked S mark w n (counted store made)).made ≤ made + 1
  unfolding rewrite_marked
  made_rewritten = go (is_marked S mark w n store)
    where
      go : (t : Bool) → (cond t (write_node S w n (counted store made)) (counted store made)).made ≤ made + 1
      go true = omega (arith, count_more S G w n (counted store made))
      go false = omega arith

-- ---- all nodes from one on

-- the loop over them has come to row n
pub record Swept (d : Dimensions) (D C : List ℕ) (w first : ℕ) (begun : List ℕ) (count n : ℕ) (store : List ℕ) (made : ℕ) : Type 0 where
  pub whole : length store ≡ size (tree d D C) d.height
  pub from : first ≤ n
  pub to : n ≤ inner (tree d D C) d.height
  pub few : made ≤ count + n
  pub is : counted store made ≡ sweep (tree d D C) mark w first (n - first) (counted begun count)

module _ {d : Dimensions} {D C : List ℕ} {w first : ℕ} {begun : List ℕ} {count : ℕ} where
  pub swept_none : length begun ≡ size (tree d D C) d.height → first ≤ inner (tree d D C) d.height → Swept d D C w first begun count first begun count
  unfolding sweep
  swept_none e b =
      let z : 0 ≡ first - first = omega arith in
      record { whole = e; from = omega arith; to = b; few = omega arith; is = ap (λ (i : ℕ). sweep (tree d D C) mark w first i (counted begun count)) z }

  pub swept_more : ValidNumbers d → w ≡ d.arity ^ d.height → (n : ℕ) (store : List ℕ) (made : ℕ) → Swept d D C w first begun count n store made → n < inner (tree d D C) d.height
      → (after : List ℕ) (next : ℕ) → after ≡ (rewrite_marked (tree d D C) mark w n (counted store made)).store → next ≡ (rewrite_marked (tree d D C) mark w n (counted store made)).made
      → Swept d D C w first begun count (n + 1) after next
  unfolding sweep
  swept_more v f n store made K b after next e g =
      let S = tree d D C in
      let G = regular v D C in
      let ri = row_inside v D C store K.whole n b in
      let nt = node_there v D C store K.whole n b w f in
      let s : counted after next ≡ rewrite_marked S mark w n (counted store made) = λ x. counted (e x) (g x) in
      let y : n ≡ first + (n - first) = omega (arith, K.from) in
      let z : suc (n - first) ≡ n + 1 - first = omega (arith, K.from) in
      record {
        whole = ap length e ∙ length-rewritten S G w n store made ri nt ∙ K.whole;
        from = omega (arith, K.from);
        to = omega arith;
        few = omega (arith, g, made_rewritten S G w n store made ri nt, K.few);
        is =
            s
            ∙ ap (rewrite_marked S mark w n) K.is
            ∙ ap (λ (i : ℕ). rewrite_marked S mark w i (sweep S mark w first (n - first) (counted begun count))) y
            ∙ ap (λ (i : ℕ). sweep S mark w first i (counted begun count)) z;
      }
