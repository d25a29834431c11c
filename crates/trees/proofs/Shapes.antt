-- The shape of a validated set is regular and keeps words, and its numbers are small.
use mathlib.Core.Path.{◌≡◌, sym, ap₂, subst}
use mathlib.Core.Logic.{inl, inr}
use mathlib.Core.Bool.{true}
use mathlib.Core.List.{List, []}
use Prim.Native.Nat.{ℕ, zero, suc, ◌+◌, ◌*◌, ◌-◌, ◌/◌, ◌%◌, ◌≤◌, ◌<◌}
use native.Mathlib.Nat.{mul-zero, mul-one, mul-le-mul_left, mul-le-mul_right, div-add-mod'}
use native.Mathlib.Omega.{arith}
use lib.ListN.{take}
use Rattle.modular.specs.Arithmetic.{all_words}
use Rattle.modular.proofs.Words.{words_by}
use Rattle.fields.proofs.Prime.{positive}
use Rattle.parameters.proofs.AcceptedSets.{words_of}
use Rattle.poseidon2.specs.Statements.{Width}
use Rattle.poseidon2.proofs.Rounds.{sizes}
use Rattle.merkle.specs.Levels.{Regular, KeepsWords}
use Rattle.merkle.proofs.Levels.{fits}
use Rattle.merkle.proofs.Openings.{but_one}
use Rattle.parameters.specs.Refusals.{constant_count}
use Rattle.parameters.proofs.Accepted.{Numbers, width_fits}
use Rattle.trees.specs.declared.Dimensions.{Dimensions}
use Rattle.trees.specs.Shapes.{prime_of_tree, shape_of, dimensions, tree, ValidNumbers, ValidSet}

width_some : {t : ℕ} → Width t → 4 ≤ t
width_some (inl e) = omega (arith, e)
width_some (inr (inl e)) = omega (arith, e)
width_some (inr (inr e)) = omega (arith, e)

-- a width that is k × l: l is not 0, and twice l, and k, is at most twelve
module _ (k l : ℕ) (w : Width (k * l)) where
  pub some_words : 0 < l
  some_words = go l w
    where
      go : (m : ℕ) → Width (k * m) → 0 < m
      go zero v = absurd (omega (arith, width_some v, mul-zero k))
      go (suc m) v = omega arith

  pub narrow : 2 ≤ k → l + l ≤ 12
  narrow s = omega (arith, mul-le-mul_right l s, width_fits (k * l) w)

  pub one_node : 2 ≤ k → l ≤ k * l
  one_node s = omega (arith, mul-le-mul_right l s)

  pub few_nodes : k ≤ 12
  few_nodes = omega (arith, mul-le-mul_left k some_words, mul-one k, width_fits (k * l) w)

-- the shape of arity k and node size l, modulo any q
module _ {q : ℕ} (pos : 0 < q) (k l half rp : ℕ) (D C : List ℕ) (w : Width (k * l)) (s : 2 ≤ k) where
  pub shape_regular : Regular (shape_of q k l half rp D C)
  shape_regular =
      record {
        several = s;
        nonempty = some_words k l w;
        sized = λ row e. ((sizes pos).compression (k * l) l half rp D C row w e (one_node k l w s)).width;
      }

  pub shape_words : KeepsWords q (shape_of q k l half rp D C)
  shape_words =
      record {
        words = λ row e _. words_by q ((shape_of q k l half rp D C).compress row) (λ i _. ((sizes pos).compression (k * l) l half rp D C row w e (one_node k l w s)).words.at i);
      }

-- where l divides t, the width of the shape of t and l is t
pub whole_width : (t l : ℕ) → t % l ≡ 0 → t / l * l ≡ t
whole_width t l e = omega (arith, div-add-mod' t l)

pub at_width : (t l : ℕ) → Width t → t % l ≡ 0 → Width (t / l * l)
at_width t l w e = subst Width (sym (whole_width t l e)) w

-- what validation gives is what the functions ask for
module _ (t l h rf rp : ℕ) (N : Numbers t l h rf rp) where
  pub valid_numbers : ValidNumbers (dimensions t l h rf rp)
  valid_numbers =
      record {
        width = at_width t l N.width N.node_size.divides;
        several = N.node_size.several;
        low = N.height.low;
        few = N.height.leaves;
        some_rounds = omega (arith, N.rounds.some);
        full_rounds = omega (arith, N.rounds.few);
        partial_rounds = N.rounds.few_partial;
      }

  used : t / l * l * (2 * (rf / 2)) + rp ≡ constant_count t rf rp
  unfolding constant_count
  used =
      let e : 2 * (rf / 2) ≡ rf = omega (arith, N.rounds.even) in
      ap₂ (λ (a b : ℕ). a * b + rp) (whole_width t l N.node_size.divides) e

  pub valid_set : (C : List ℕ) → all_words (prime_of_tree (dimensions t l h rf rp)) (take (constant_count t rf rp) C) ≡ true → ValidSet (dimensions t l h rf rp) C
  valid_set C e =
      record {
        numbers = valid_numbers;
        words = rw used (words_of _ (take (constant_count t rf rp) C) positive e);
      }

-- the numbers of a validated set
module _ {d : Dimensions} (v : ValidNumbers d) where
  pub regular : (D C : List ℕ) → Regular (tree d D C)
  regular D C = shape_regular positive d.arity d.node_size d.half d.partial_rounds D C v.width v.several

  pub keeps_words : (D C : List ℕ) → KeepsWords (prime_of_tree d) (tree d D C)
  keeps_words D C = shape_words positive d.arity d.node_size d.half d.partial_rounds D C v.width v.several

  pub width_small : d.arity * d.node_size ≤ 12
  width_small = width_fits (d.arity * d.node_size) v.width

  pub node_small : d.node_size ≤ 6
  node_small = omega (arith, narrow d.arity d.node_size v.width v.several)

  pub node_some : 0 < d.node_size
  node_some = some_words d.arity d.node_size v.width

  pub arity_small : d.arity ≤ 12
  arity_small = few_nodes d.arity d.node_size v.width

-- a row with its node c: the siblings before it, it, and the siblings behind it
pub record Room (d : Dimensions) (c : ℕ) : Type 0 where
  pub before : c * d.node_size ≤ (d.arity - 1) * d.node_size
  pub whole : (d.arity - 1) * d.node_size + d.node_size ≡ d.arity * d.node_size
  pub some : 1 ≤ d.arity
  pub node : d.node_size ≤ 6
  pub width : d.arity * d.node_size ≤ 12

pub room : {d : Dimensions} → ValidNumbers d → (c : ℕ) → c < d.arity → Room d c
room {d} v c b =
    let S = tree d [] [] in
    let G = regular v [] [] in
    record {
      before = omega (arith, fits d.node_size d.arity c b, but_one S G);
      whole = but_one S G;
      some = omega (arith, v.several);
      node = node_small v;
      width = width_small v;
    }
