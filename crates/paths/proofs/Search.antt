-- The search upwards: the nodes of both paths are at hand, and no level below has a collision.
use mathlib.Core.Path.{◌≡◌, sym, ap₂, ◌∙◌}
use mathlib.Core.Bool.{Bool, true, false, not, ◌&&◌}
use mathlib.Core.List.{List}
use Prim.Native.Nat.{ℕ, ◌+◌, ◌*◌, ◌-◌, ◌/◌, ◌%◌, ◌<◌}
use native.Mathlib.Omega.{arith}
use borrow.Author.Count.{below_more}
use lib.ListN.{length, take}
use Rattle.merkle.specs.Lists.{same, lowest, part}
use Rattle.merkle.specs.Openings.{path_row, put_back}
use Rattle.merkle.specs.Extraction.{collide, collide_at}
use Rattle.merkle.proofs.Lists.{lowest_some, lowest_none}
use Rattle.trees.specs.declared.Dimensions.{Dimensions}
use Rattle.trees.specs.Shapes.{tree, ValidNumbers}
use Rattle.paths.proofs.Verdict.{Walked, walked_more}
use Rattle.paths.specs.Levels.{level_or}
use Rattle.paths.proofs.Rows.{row_made}

pub record Climbed (d : Dimensions) (D C : List ℕ) (q : ℕ) (a x b y : List ℕ) (j : ℕ) (own other : List ℕ) (number : ℕ) : Type 0 where
  pub first : Walked d D C q a x j own number
  pub second : Walked d D C q b y j other number
  pub none_below : (i : ℕ) → i < j → collide_at (tree d D C) q a x b y i ≡ false

module _ {d : Dimensions} (v : ValidNumbers d) (D C : List ℕ) (q : ℕ) (a x b y : List ℕ) where
  pub climbed_none : (own other : List ℕ) → Walked d D C q a x 0 own q → Walked d D C q b y 0 other q → Climbed d D C q a x b y 0 own other q
  climbed_none own other W Z = record { first = W; second = Z; none_below = λ i c. absurd (omega arith) }

  -- the search has passed the root
  pub found_none : {j : ℕ} {own other : List ℕ} {number : ℕ} → Climbed d D C q a x b y j own other number → j ≡ d.height
      → d.height ≡ level_or d.height (lowest (collide_at (tree d D C) q a x b y) d.height)
  unfolding level_or
  found_none {j} K z = rw (lowest_none (collide_at (tree d D C) q a x b y) d.height (λ i c. K.none_below i (omega arith)))

  -- a level's rows, and the nodes that they compress to
  module _ {j : ℕ} {own other : List ℕ} {number : ℕ} (K : Climbed d D C q a x b y j own other number) (row row' next next' : List ℕ)
      (e : take (d.arity * d.node_size) row ≡ put_back (tree d D C) (number % d.arity) (take d.node_size own) (part (j * ((d.arity - 1) * d.node_size)) ((d.arity - 1) * d.node_size) x))
      (e' : take (d.arity * d.node_size) row' ≡ put_back (tree d D C) (number % d.arity) (take d.node_size other) (part (j * ((d.arity - 1) * d.node_size)) ((d.arity - 1) * d.node_size) y))
      (f : take d.node_size next ≡ (tree d D C).compress (take (d.arity * d.node_size) row))
      (f' : take d.node_size next' ≡ (tree d D C).compress (take (d.arity * d.node_size) row'))
      (t : Bool) (test : t ≡ (not (same (take (d.arity * d.node_size) row) (take (d.arity * d.node_size) row')) && same (take d.node_size next) (take d.node_size next'))) where
    tested : collide_at (tree d D C) q a x b y j ≡ t
    unfolding collide_at collide
    tested =
        let S = tree d D C in
        let g : take (d.arity * d.node_size) row ≡ path_row S q a x j = row_made d D C q a x j own number row K.first.is K.first.at e in
        let g' : take (d.arity * d.node_size) row' ≡ path_row S q b y j = row_made d D C q b y j other number row' K.second.is K.second.at e' in
        sym (test ∙ ap₂ (λ (m n : List ℕ). not (same (take (d.arity * d.node_size) row) (take (d.arity * d.node_size) row')) && same m n) f f'
        ∙ ap₂ (λ (r s : List ℕ). not (same r s) && same (S.compress r) (S.compress s)) g g')

    pub found : j < d.height → t ≡ true → j ≡ level_or d.height (lowest (collide_at (tree d D C) q a x b y) d.height)
    unfolding level_or
    found c z = rw (lowest_some (collide_at (tree d D C) q a x b y) j d.height c (tested ∙ z) K.none_below)

    pub climbed_more : length next ≡ 6 → length next' ≡ 6 → t ≡ false → Climbed d D C q a x b y (j + 1) next next' (number / d.arity)
    climbed_more l l' z =
        record {
          first = walked_more v D C q a x row next K.first l e f;
          second = walked_more v D C q b y row' next' K.second l' e' f';
          none_below = below_more (λ (i : ℕ). collide_at (tree d D C) q a x b y i ≡ false) j K.none_below (tested ∙ z);
        }
