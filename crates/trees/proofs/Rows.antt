-- A row compressed, in an array or in a store.
use mathlib.Core.Path.{◌≡◌, refl, sym, ap, ◌∙◌}
use mathlib.Core.List.{List}
use Prim.Native.Nat.{ℕ, ◌+◌, ◌*◌, ◌≤◌, ◌<◌}
use native.Mathlib.Nat.{le-mul_of_pos_right}
use native.Mathlib.Omega.{arith}
use lib.ListN.{length, take}
use lib.Seq.{paste, take-take, take-paste, take_all}
use Rattle.merkle.specs.Levels.{Shape, Regular, row}
use Rattle.merkle.specs.Numbering.{write_node}
use Rattle.merkle.specs.Replacement.{Counted}
use Rattle.merkle.proofs.Lists.{put_paste, length-put, length_part}

-- a node written at the head of a list, and read back among the first six
pub node_of_six : (l : ℕ) (old xs six v : List ℕ) → l ≤ 6 → six ≡ take 6 xs → length v ≡ l → xs ≡ paste old 0 v l → take l six ≡ v
node_of_six l old xs six v b s e h =
    let z : l ≡ 0 + l = omega arith in
    ap (take l) s
    ∙ take-take l 6 xs b
    ∙ ap (take l) h
    ∙ ap (λ (n : ℕ). take n (paste old 0 v l)) z
    ∙ take-paste old 0 v l (omega arith) (omega arith)
    ∙ take_all l v (omega arith)

module _ (S : Shape) (G : Regular S) where
  open S use {arity as k, node_size as l, compress}

  -- the number of a node that is in a list is below the list's length
  pub number_small : (i m : ℕ) → i * l + l ≤ m → i < m
  number_small i m b = omega (arith, le-mul_of_pos_right i G.nonempty, G.nonempty)

  module _ (store : List ℕ) (n : ℕ) (inside : n * (k * l) + k * l ≤ length store) where
    pub length-node_of_row : length (compress (row S n store)) ≡ l
    length-node_of_row = G.sized (row S n store) (length_part (n * (k * l)) (k * l) store inside)

    -- a row compressed and written is a node rewritten
    pub written : (w c : ℕ) → paste store ((w + n) * l) (compress (row S n store)) l ≡ (write_node S w n (record { store = store; made = c })).store
    unfolding write_node
    written w c = sym (put_paste store ((w + n) * l) (compress (row S n store)) ∙ ap (paste store ((w + n) * l) (compress (row S n store))) length-node_of_row)

    pub length-written : (w c : ℕ) → (w + n) * l + l ≤ length store → length (write_node S w n (record { store = store; made = c })).store ≡ length store
    unfolding write_node
    length-written w c b = length-put store ((w + n) * l) (compress (row S n store)) (omega (arith, length-node_of_row))

  pub count_more : (w n : ℕ) (s : Counted) → (write_node S w n s).made ≡ s.made + 1
  unfolding write_node
  count_more w n s = refl
