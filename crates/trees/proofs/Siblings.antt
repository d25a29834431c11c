-- The siblings of a node: the words of its row before it and behind it.
use mathlib.Core.Path.{◌≡◌, refl, sym, ap, ◌∙◌}
use mathlib.Core.Bool.{Bool, true, false, false≢true}
use mathlib.Core.List.{List, [], ◌++◌}
use Prim.Native.Nat.{ℕ, ◌+◌, ◌*◌, ◌-◌, ◌/◌, ◌%◌, ◌^◌, ◌≤◌, ◌<◌}
use native.Mathlib.Omega.{arith}
use lib.ListN.{length, take, drop}
use Rattle.modular.specs.Arithmetic.{all_words}
use Rattle.merkle.specs.Levels.{Shape, Regular, row}
use Rattle.merkle.specs.Lists.{part, put}
use Rattle.merkle.specs.Levels.{nodes_before, start, stored_level}
use Rattle.merkle.specs.Lists.{joined}
use Rattle.merkle.specs.Numbering.{number_of, gather}
use Rattle.merkle.specs.Openings.{without, opening_at, opening}
use Rattle.merkle.proofs.Lists.{length_part, length-put, joined_add}
use Rattle.merkle.proofs.Levels.{fits}
use Rattle.merkle.proofs.Numbering.{opening_gather}
use Rattle.merkle.proofs.Openings.{but_one, length_without}
use Rattle.modular.proofs.Words.{words_append, words_left, words_right}
use native.Mathlib.Nat.{suc-mul}
use native.Mathlib.Numerals.{add-one}
use Rattle.trees.specs.declared.Dimensions.{Dimensions}
use Rattle.trees.specs.Shapes.{tree}
use Rattle.trees.proofs.Shapes.{regular}
use Rattle.trees.proofs.Lists.{put_put, part_without, words_both, take-put_next}
use Rattle.trees.proofs.Ascent.{Over, own_place, over_row}

module _ (S : Shape) (G : Regular S) (n c : ℕ) (store : List ℕ) (a : c < S.arity) (b : n * (S.arity * S.node_size) + S.arity * S.node_size ≤ length store) where
  open S use {arity as k, node_size as l}

  pub child_inside : c * l + l ≤ k * l
  child_inside = fits l k c a

  pub siblings_parts : without S c (row S n store) ≡ part (n * (k * l)) (c * l) store ++ part (n * (k * l) + c * l + l) (k * l - c * l - l) store
  unfolding without
  siblings_parts =
      let r : ℕ = k * l - c * l - l in
      let e : k * l ≡ c * l + l + r = omega (arith, child_inside) in
      ap (λ (m : ℕ). take (c * l) (part (n * (k * l)) m store) ++ drop (c * l + l) (part (n * (k * l)) m store)) e
      ∙ part_without (c * l) l r store (n * (k * l)) (omega arith)

  -- copied one part after the other
  pub siblings_copied : (target : List ℕ) (to : ℕ) → to + (k - 1) * l ≤ length target
      → put (put target to (part (n * (k * l)) (c * l) store)) (to + c * l) (part (n * (k * l) + c * l + l) (k * l - c * l - l) store)
      ≡ put target to (without S c (row S n store))
  siblings_copied target to f =
      let v : List ℕ = part (n * (k * l) + c * l + l) (k * l - c * l - l) store in
      let e : length v ≡ k * l - c * l - l = length_part (n * (k * l) + c * l + l) (k * l - c * l - l) store (omega (arith, child_inside)) in
      put_put target to (part (n * (k * l)) (c * l) store) v (c * l)
      (length_part (n * (k * l)) (c * l) store (omega (arith, child_inside))) (omega (arith, child_inside, but_one S G))
      ∙ ap (put target to) (sym siblings_parts)

  pub length_siblings : length (without S c (row S n store)) ≡ (k - 1) * l
  length_siblings = length_without S G c (row S n store) child_inside (length_part (n * (k * l)) (k * l) store b)

  -- tested one part after the other, the parts' lengths as the code has them
  pub siblings_fail : (p x : ℕ) → x ≡ c * l → all_words p (part (n * (k * l)) x store) ≡ false → false ≡ all_words p (without S c (row S n store))
  siblings_fail p x e f =
      let g : all_words p (part (n * (k * l)) (c * l) store) ≡ false = rw (← e) f in
      sym (ap (all_words p) siblings_parts ∙ words_both p (part (n * (k * l)) (c * l) store) (part (n * (k * l) + c * l + l) (k * l - c * l - l) store) ∙ rw g)

  pub siblings_rest : (p x y : ℕ) → x ≡ c * l → y ≡ k * l - c * l - l → all_words p (part (n * (k * l)) x store) ≡ true
      → all_words p (part (n * (k * l) + c * l + l) y store) ≡ all_words p (without S c (row S n store))
  siblings_rest p x y e f t =
      let g : all_words p (part (n * (k * l)) (c * l) store) ≡ true = rw (← e) t in
      rw f (sym (ap (all_words p) siblings_parts ∙ words_both p (part (n * (k * l)) (c * l) store) (part (n * (k * l) + c * l + l) (k * l - c * l - l) store) ∙ rw g))

-- ---- level by level

gather_next : (S : Shape) (w q : ℕ) (store : List ℕ) (j : ℕ)
    → gather S w q store (j + 1) ≡ gather S w q store j ++ without S (number_of S w q j % S.arity) (row S (number_of S w q j / S.arity) store)
unfolding gather joined
gather_next S w q store j = ap (gather S w q store) (add-one j)

pub gather_none : (S : Shape) (w q : ℕ) (store : List ℕ) → gather S w q store 0 ≡ []
unfolding gather joined
gather_none S w q store = refl

-- words of more levels are words of fewer
gather_words : (S : Shape) (w q : ℕ) (store : List ℕ) (p j m : ℕ) → all_words p (gather S w q store (j + m)) ≡ true → all_words p (gather S w q store j) ≡ true
unfolding gather
gather_words S w q store p j m e =
    let f : ℕ → List ℕ = λ i. without S (number_of S w q i % S.arity) (row S (number_of S w q i / S.arity) store) in
    words_left p (joined f j) (joined (λ i. f (j + i)) m) (ap (all_words p) (sym (joined_add f j m)) ∙ e)

rest : (j h : ℕ) → j ≤ h → j + (h - j) ≡ h
rest j h b = omega arith

-- openings do not look at D and C
pub opening_any : (d : Dimensions) (D C : List ℕ) (q : ℕ) (store : List ℕ) → opening (tree d [] []) d.height q store ≡ opening (tree d D C) d.height q store
unfolding opening opening_at without stored_level start nodes_before
opening_any d D C q store = refl

module _ {d : Dimensions} {D C : List ℕ} {q level number : ℕ} (store : List ℕ) (O : Over d D C (length store) q level number) where
  abbrev S : Shape
  S = tree d D C

  abbrev w : ℕ
  w = d.arity ^ d.height

  abbrev next : List ℕ
  next = without S (number % d.arity) (row S (number / d.arity) store)

  gathered_next : gather S w q store (level + 1) ≡ gather S w q store level ++ next
  gathered_next = gather_next S w q store level ∙ ap (λ (f : ℕ). gather S w q store level ++ without S (f % d.arity) (row S (f / d.arity) store)) (sym O.is)

  module _ (b : level < d.height) where
    length-next : length next ≡ (d.arity - 1) * d.node_size
    length-next = length_siblings S (regular O.numbers D C) (number / d.arity) (number % d.arity) store (own_place O) (over_row O b)

    -- one level's siblings more are copied
    module _ (old : List ℕ) (e : length old ≡ d.height * ((d.arity - 1) * d.node_size)) where
      pub level_inside : level * ((d.arity - 1) * d.node_size) + (d.arity - 1) * d.node_size ≤ length old
      level_inside = omega (arith, fits ((d.arity - 1) * d.node_size) d.height level b)

      module _ (new : List ℕ) (f : new ≡ put old (level * ((d.arity - 1) * d.node_size)) next) where
        pub level_length : length new ≡ length old
        level_length = ap length f ∙ length-put old (level * ((d.arity - 1) * d.node_size)) next (omega (arith, level_inside, length-next))

        pub level_copied : take (level * ((d.arity - 1) * d.node_size)) old ≡ gather S w q store level
            → take ((level + 1) * ((d.arity - 1) * d.node_size)) new ≡ gather S w q store (level + 1)
        level_copied g =
            let m : ℕ = (d.arity - 1) * d.node_size in
            let z : (level + 1) * m ≡ level * m + m = rw (add-one level) (suc-mul level m) in
            rw (z, f)
            (take-put_next old (level * m) next m length-next level_inside ∙ ap (λ (x : List ℕ). x ++ next) g ∙ sym gathered_next)

    -- or are words, or are not
    pub level_words : (p : ℕ) → all_words p (gather S w q store level) ≡ true → all_words p next ≡ true → all_words p (gather S w q store (level + 1)) ≡ true
    level_words p e f = ap (all_words p) gathered_next ∙ words_append p (gather S w q store level) next e f

    pub level_fails : (p : ℕ) → all_words p next ≡ false → false ≡ all_words p (opening S d.height q store)
    level_fails p f = go (all_words p (opening S d.height q store)) refl
      where
        -- the opening goes on from the first levels
        go : (t : Bool) → all_words p (opening S d.height q store) ≡ t → false ≡ all_words p (opening S d.height q store)
        go false e = sym e
        go true e =
            let g : all_words p (gather S w q store (level + 1)) ≡ true =
            gather_words S w q store p (level + 1) (d.height - (level + 1))
            (ap (λ (m : ℕ). all_words p (gather S w q store m)) (rest (level + 1) d.height (omega arith)) ∙ ap (all_words p) (sym (opening_gather S (regular O.numbers D C) d.height q O.inside store O.whole)) ∙ e) in
            absurd (false≢true (sym f ∙ words_right p (gather S w q store level) next (ap (all_words p) (sym gathered_next) ∙ g)))
