-- A store by its nodes, numbered as in `Numbering`: what is true of all of them by their numbers, rows by their nodes, and a node put in place.
use mathlib.Core.Path.{◌≡◌, sym, ap, ◌∙◌}
use mathlib.Core.Logic.{◌≢◌}
use mathlib.Core.List.{List, ◌++◌}
use Prim.Native.Nat.{ℕ, zero, suc, ◌+◌, ◌*◌, ◌-◌, ◌/◌, ◌^◌, ◌≤◌, ◌<◌}
use native.Mathlib.Nat.{add-zero, mul_comm, suc-mul, mul-add-div, div-eq_of_lt}
use native.Mathlib.Decide.{dec_lt}
use native.Mathlib.Omega.{arith}
use lib.ListN.{length, get_or, take, drop, take-append-drop}
use lib.Seq.{get_or-take, get_or-drop, length-take-le}
use Rattle.merkle.specs.Lists.{part, put}
use Rattle.merkle.specs.Levels.{Shape, Regular, node, row, size}
use Rattle.merkle.specs.Numbering.{rows_before, inner}
use Rattle.merkle.proofs.Lists.{length_part, part_middle, length-put, put_inside, part_put, part_put_before, part_put_behind, joined_same}
use Rattle.merkle.proofs.Levels.{fits, some_arity, row_nodes, nodes_only}
use Rattle.merkle.proofs.Numbering.{nodes_rows, nodes_above_lem, size_inner, nodes_of_row, row_before, node_inside}

module _ (S : Shape) (G : Regular S) where
  open S use {arity as k, node_size as l, compress}

  -- ---- rows

  pub row_same : (n : ℕ) (xs ys : List ℕ) → ((c : ℕ) → c < k → node S (k * n + c) xs ≡ node S (k * n + c) ys) → row S n xs ≡ row S n ys
  row_same n xs ys e = sym (row_nodes S G n xs) ∙ joined_same (λ c. node S (k * n + c) xs) (λ c. node S (k * n + c) ys) k e ∙ row_nodes S G n ys

  pub child_row : (n c : ℕ) → c < k → (k * n + c) / k ≡ n
  child_row n c b = mul-add-div (some_arity S G) n c ∙ ap (λ (a : ℕ). n + a) (div-eq_of_lt b) ∙ add-zero n

  -- the first word of a node
  pub first_word : (f : ℕ) (store : List ℕ) → get_or store (f * l) 0 ≡ get_or (node S f store) 0 0
  first_word f store =
      sym (get_or-take l (drop (f * l) store) 0 0 G.nonempty ∙ get_or-drop (f * l) store 0 0 ∙ ap (λ (a : ℕ). get_or store a 0) (add-zero (f * l)))

  module _ (h : ℕ) where
    -- all nodes of a store
    abbrev pub total : ℕ
    total = k ^ h + inner S h

    -- the nodes of row n have numbers before node w + n
    pub child_number : (n c : ℕ) → n < inner S h → c < k → k * n + c < k ^ h + n
    child_number n c b a = omega (arith, nodes_of_row S G h n b, suc-mul n k, mul_comm k n)

    -- and those of a row of level j or below it have numbers before the nodes above level j
    pub child_level : (j n c : ℕ) → j < h → n < rows_before S h (suc j) → c < k → k * n + c < k ^ h + rows_before S h j
    child_level j n c b d a =
        omega (arith, fits k (rows_before S h (suc j)) n d, mul_comm k n, mul_comm k (rows_before S h (suc j)), nodes_rows S G h (suc j) b, nodes_above_lem S G h j)

    -- ---- all nodes, from below: the leaves, and each node after its row
    module _ (P : ℕ → Type 0) (leaf : (f : ℕ) → f < k ^ h → P f) (upper : (n : ℕ) → n < inner S h → ((c : ℕ) → c < k → P (k * n + c)) → P (k ^ h + n)) where
      up_to : (m f : ℕ) → f < m → f < total → P f
      up_to zero f a b = absurd (omega arith)
      up_to (suc m) f a b = go (dec_lt f (k ^ h)) (up_to m)
        where
          go : Dec (f < k ^ h) → ((g : ℕ) → g < m → g < total → P g) → P f
          go (yes c) ih = leaf f c
          go (no c) ih =
              let n : ℕ = f - k ^ h in
              let d : n < inner S h = omega arith in
              let e : f ≡ k ^ h + n = omega arith in
              rw e (upper n d (λ c i. ih (k * n + c) (omega (arith, child_number n c d i)) (omega (arith, child_number n c d i))))

      pub each_node : (f : ℕ) → f < total → P f
      each_node f b = up_to (suc f) f (omega arith) b

    pub store_same : (xs ys : List ℕ) → length xs ≡ size S h → length ys ≡ size S h → ((f : ℕ) → f < total → node S f xs ≡ node S f ys) → xs ≡ ys
    store_same xs ys e f g = nodes_only S G total xs ys (e ∙ size_inner S G h) (f ∙ size_inner S G h) g

    -- ---- in a store

    pub node_fits : (f : ℕ) → f < total → f * l + l ≤ size S h
    node_fits f b = omega (arith, fits l total f b, size_inner S G h)

    module _ (store : List ℕ) (whole : length store ≡ size S h) where
      pub length-numbered : (f : ℕ) → f < total → length (node S f store) ≡ l
      length-numbered f b = length_part (f * l) l store (omega (arith, node_fits f b))

      pub length-numbered_row : (n : ℕ) → n < inner S h → length (row S n store) ≡ k * l
      length-numbered_row n b = length_part (n * (k * l)) (k * l) store (omega (arith, row_before S G h n b, node_inside S G h n b))

      pub length-compressed : (n : ℕ) → n < inner S h → length (compress (row S n store)) ≡ l
      length-compressed n b = G.sized (row S n store) (length-numbered_row n b)

      -- a node, or the first of its words, put in place
      module _ (g : ℕ) (v : List ℕ) (b : g < total) (short : length v ≤ l) where
        put_room : g * l + length v ≤ length store
        put_room = omega (arith, node_fits g b)

        pub put_length : length (put store (g * l) v) ≡ size S h
        put_length = length-put store (g * l) v put_room ∙ whole

        pub put_other : (f : ℕ) → f ≢ g → node S f (put store (g * l) v) ≡ node S f store
        put_other f d = go (dec_lt f g)
          where
            go : Dec (f < g) → node S f (put store (g * l) v) ≡ node S f store
            go (yes c) = part_put_before store (g * l) v put_room (f * l) l (fits l g f c)
            go (no c) =
                let a : g < f = omega arith in
                part_put_behind store (g * l) v put_room (f * l) l (omega (arith, fits l f g a))

        pub put_row : (n : ℕ) → ((c : ℕ) → c < k → k * n + c ≢ g) → row S n (put store (g * l) v) ≡ row S n store
        put_row n d = row_same n (put store (g * l) v) store (λ c a. put_other (k * n + c) (d c a))

        pub put_same : length v ≡ l → node S g (put store (g * l) v) ≡ v
        put_same e = ap (λ (n : ℕ). part (g * l) n (put store (g * l) v)) (sym e) ∙ part_put store (g * l) v put_room

        -- the node as it was, with these for its first words
        pub put_own : node S g (put store (g * l) v) ≡ put (node S g store) 0 v
        put_own =
            let i : ℕ = g * l in
            let room : i + l ≤ length store = omega (arith, node_fits g b) in
            let front : length (take i store) ≡ i = length-take-le i store (omega arith) in
            let own : length (node S g store) ≡ l = length-numbered g b in
            let apart : take i store ++ (node S g store ++ drop l (drop i store)) ≡ store =
            ap (λ (z : List ℕ). take i store ++ z) (take-append-drop l (drop i store)) ∙ take-append-drop i store in
            let fits-own : 0 + length v ≤ length (node S g store) = omega arith in
            let whole-i : i ≡ i + 0 = omega arith in
            ap (λ (z : List ℕ). part i l (put z i v)) (sym apart)
            ∙ ap (λ (a : ℕ). part i l (put (take i store ++ (node S g store ++ drop l (drop i store))) a v)) whole-i
            ∙ ap (part i l) (put_inside (take i store) (node S g store) (drop l (drop i store)) 0 v i front fits-own)
            ∙ part_middle l i (take i store) (put (node S g store) 0 v) (drop l (drop i store)) front (length-put (node S g store) 0 v fits-own ∙ own)
