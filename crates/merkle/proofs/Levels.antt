-- Levels and stores: their lengths, where each node and row stands, and that a store is known by its leaves.
use mathlib.Core.Path.{◌≡◌, refl, sym, ap, ◌∙◌}
use mathlib.Core.Bool.{true}
use mathlib.Core.List.{List, ◌++◌}
use Prim.Native.Nat.{ℕ, zero, suc, ◌+◌, ◌*◌, ◌-◌, ◌/◌, ◌%◌, ◌^◌, ◌≤◌, ◌<◌}
use native.Mathlib.Nat.{pow-zero, pow-suc, mul_assoc, mul_comm, zero-mul, one-mul, suc-mul, add-mul, add-zero, mul-le-mul_right, div-lt_iff_lt-mul, div-add-mod', mod-lt}
use native.Mathlib.Omega.{arith}
use lib.ListN.{length, take, drop, length-append}
use lib.Seq.{drop-append-add, take_all}
use Rattle.modular.specs.Arithmetic.{all_words}
use Rattle.merkle.specs.Lists.{part, joined, sum}
use Rattle.merkle.specs.Levels.{Shape, Regular, KeepsWords, Nodes, node, row, above, count, level, build, nodes_before, start, size, stored_level, root}
use Rattle.merkle.proofs.Lists.{length_part, part_part, part_joined, part_whole, length-joined_even, part_joined_even, joined_same, joined_parts, words_part_lem, words_joined}

-- i blocks of m words, and one more, fit into n blocks
pub fits : (m n i : ℕ) → i < n → i * m + m ≤ n * m
fits m n i b = omega (arith, mul-le-mul_right m b, suc-mul i m)

module _ (S : Shape) (G : Regular S) where
  open S use {arity as k, node_size as l, compress}

  -- ---- numbers

  pub some_arity : 0 < k
  some_arity = omega (arith, G.several)

  -- a level has k times the nodes of the one above it, so that many rows
  pub count_down : (h j : ℕ) → j < h → count S h j ≡ count S h (suc j) * k
  count_down h j b =
      let e : h - j ≡ suc (h - suc j) = omega arith in
      ap (λ (a : ℕ). k ^ a) e ∙ pow-suc k (h - suc j)

  pub count_rows : (h j : ℕ) → j < h → count S h j * l ≡ count S h (suc j) * (k * l)
  count_rows h j b = ap (λ (a : ℕ). a * l) (count_down h j b) ∙ mul_assoc (count S h (suc j)) k l

  pub count_leaves : (h : ℕ) → count S h 0 ≡ k ^ h
  count_leaves h = let e : h - 0 ≡ h = omega arith in ap (λ (a : ℕ). k ^ a) e

  pub count_root : (h : ℕ) → count S h h ≡ 1
  count_root h = let e : h - h ≡ 0 = omega arith in ap (λ (a : ℕ). k ^ a) e ∙ pow-zero k

  -- the children of a node stand on the level below
  pub child_below : (n i c : ℕ) → i < n → c < k → k * i + c < n * k
  child_below n i c b d = omega (arith, fits k n i b, mul_comm k i)

  -- a node in its row
  pub node_in_row : (i c : ℕ) → (k * i + c) * l ≡ i * (k * l) + c * l
  node_in_row i c = add-mul (k * i) c l ∙ ap (λ (a : ℕ). a + c * l) (ap (λ (a : ℕ). a * l) (mul_comm k i) ∙ mul_assoc i k l)

  pub place_in_row : (i : ℕ) → i * l ≡ i / k * (k * l) + i % k * l
  place_in_row i = ap (λ (a : ℕ). a * l) (sym (div-add-mod' i k)) ∙ add-mul (i / k * k) (i % k) l ∙ ap (λ (a : ℕ). a + i % k * l) (mul_assoc (i / k) k l)

  pub child_fits : (i : ℕ) → i % k * l + l ≤ k * l
  child_fits i = fits l k (i % k) (mod-lt i some_arity)

  pub parent_below : (n i : ℕ) → i < n * k → i / k < n
  parent_below n i b = (div-lt_iff_lt-mul {k = k} some_arity).1 b

  -- ---- nodes and rows of a list

  pub length-node : (n i : ℕ) (xs : List ℕ) → i < n → Nodes S n xs → length (node S i xs) ≡ l
  length-node n i xs b e = length_part (i * l) l xs (omega (arith, fits l n i b))

  pub length-row : (n i : ℕ) (xs : List ℕ) → i < n → length xs ≡ n * (k * l) → length (row S i xs) ≡ k * l
  length-row n i xs b e = length_part (i * (k * l)) (k * l) xs (omega (arith, fits (k * l) n i b))

  -- a row is its k nodes
  pub row_nodes : (i : ℕ) (xs : List ℕ) → joined (λ c. node S (k * i + c) xs) k ≡ row S i xs
  row_nodes i xs =
      joined_same (λ c. node S (k * i + c) xs) (λ c. part (i * (k * l) + c * l) l xs) k (λ c b. ap (λ (a : ℕ). part a l xs) (node_in_row i c))
      ∙ joined_parts (i * (k * l)) l xs k

  -- a list of n nodes is its nodes
  pub all_nodes : (n : ℕ) (xs : List ℕ) → Nodes S n xs → joined (λ i. node S i xs) n ≡ xs
  all_nodes n xs e =
      joined_same (λ i. node S i xs) (λ i. part (0 + i * l) l xs) n (λ i b. ap (λ (a : ℕ). part a l xs) (from_zero (i * l)))
      ∙ joined_parts 0 l xs n ∙ part_whole (n * l) xs e
    where
      from_zero : (a : ℕ) → a ≡ 0 + a
      from_zero a = omega arith

  pub nodes_only : (n : ℕ) (xs ys : List ℕ) → Nodes S n xs → Nodes S n ys → ((i : ℕ) → i < n → node S i xs ≡ node S i ys) → xs ≡ ys
  nodes_only n xs ys e f g =
      sym (all_nodes n xs e) ∙ joined_same (λ i. node S i xs) (λ i. node S i ys) n g ∙ all_nodes n ys f

  -- ---- the level above

  above_lengths : (n : ℕ) (xs : List ℕ) → length xs ≡ n * (k * l) → (i : ℕ) → i < n → length (compress (row S i xs)) ≡ l
  above_lengths n xs e i b = G.sized (row S i xs) (length-row n i xs b e)

  pub above_nodes : (n : ℕ) (xs : List ℕ) → length xs ≡ n * (k * l) → Nodes S n (above S n xs)
  unfolding above
  above_nodes n xs e = length-joined_even (λ i. compress (row S i xs)) l n (above_lengths n xs e)

  pub above_node : (n i : ℕ) (xs : List ℕ) → i < n → length xs ≡ n * (k * l) → node S i (above S n xs) ≡ compress (row S i xs)
  unfolding above
  above_node n i xs b e = part_joined_even (λ c. compress (row S c xs)) l i n b (above_lengths n xs e)

  -- ---- where levels stand in a store

  pub before_next : (h j : ℕ) → nodes_before S h (suc j) ≡ nodes_before S h j + count S h j
  unfolding nodes_before sum
  before_next h j = refl

  pub start_zero : (h : ℕ) → start S h 0 ≡ 0
  unfolding start nodes_before sum
  start_zero h = zero-mul l

  pub start_next : (h j : ℕ) → start S h (suc j) ≡ start S h j + count S h j * l
  unfolding start
  start_next h j = ap (λ (a : ℕ). a * l) (before_next h j) ∙ add-mul (nodes_before S h j) (count S h j) l

  start_end : (h j d : ℕ) → start S h j ≤ start S h (j + d)
  start_end h j zero = let e : start S h j ≡ start S h (j + 0) = ap (start S h) (sym (add-zero j)) in omega arith
  start_end h j (suc d) =
      let e : start S h (j + suc d) ≡ start S h (suc (j + d)) = ap (start S h) (native.Mathlib.Nat.add-suc j d) in
      omega (arith, start_end h j d, start_next h (j + d))

  -- each level stands whole in a store
  pub level_inside : (h j : ℕ) → j ≤ h → start S h j + count S h j * l ≤ size S h
  unfolding size
  level_inside h j b =
      let e : start S h (suc h) ≡ start S h (suc j + (h - j)) = let f : suc h ≡ suc j + (h - j) = omega arith in ap (start S h) f in
      omega (arith, start_next h j, start_end h (suc j) (h - j))

  pub root_inside : (h : ℕ) → start S h h + l ≡ size S h
  unfolding size
  root_inside h = omega (arith, start_next h h, ap (λ (a : ℕ). a * l) (count_root h), one-mul l)

  module _ (h : ℕ) (store : List ℕ) (whole : length store ≡ size S h) where
    pub stored_nodes : (j : ℕ) → j ≤ h → Nodes S (count S h j) (stored_level S h store j)
    unfolding stored_level
    stored_nodes j b = length_part (start S h j) (count S h j * l) store (omega (arith, level_inside h j b))

    pub stored_rows : (j : ℕ) → j < h → length (stored_level S h store j) ≡ count S h (suc j) * (k * l)
    stored_rows j b = stored_nodes j (omega arith) ∙ count_rows h j b

    -- a node, and a row, of a level, by its words in the store
    pub stored_node : (j i : ℕ) → j ≤ h → i < count S h j → node S i (stored_level S h store j) ≡ part (start S h j + i * l) l store
    unfolding stored_level
    stored_node j i b c =
        part_part (i * l) l (start S h j) (count S h j * l) store (fits l (count S h j) i c) (omega (arith, level_inside h j b))

    pub stored_row : (j i : ℕ) → j < h → i < count S h (suc j) → row S i (stored_level S h store j) ≡ part (start S h j + i * (k * l)) (k * l) store
    unfolding stored_level
    stored_row j i b c =
        part_part (i * (k * l)) (k * l) (start S h j) (count S h j * l) store
        (omega (arith, fits (k * l) (count S h (suc j)) i c, count_rows h j b)) (omega (arith, level_inside h j (omega arith)))

    pub length-stored_row : (j i : ℕ) → j < h → i < count S h (suc j) → length (row S i (stored_level S h store j)) ≡ k * l
    length-stored_row j i b c = length-row (count S h (suc j)) i (stored_level S h store j) c (stored_rows j b)

    pub length-stored_node : (j i : ℕ) → j ≤ h → i < count S h j → length (node S i (stored_level S h store j)) ≡ l
    length-stored_node j i b c = length-node (count S h j) i (stored_level S h store j) c (stored_nodes j b)

    -- a store is its levels
    pub all_levels : (j : ℕ) → j ≤ suc h → joined (stored_level S h store) j ≡ take (start S h j) store
    unfolding joined stored_level
    all_levels zero b = ap (λ (a : ℕ). take a store) (sym (start_zero h))
    all_levels (suc j) b =
        ap (λ (z : List ℕ). z ++ part (start S h j) (count S h j * l) store) (all_levels j (omega arith))
        ∙ sym (lib.Seq.take-add (start S h j) (count S h j * l) store)
        ∙ ap (λ (a : ℕ). take a store) (sym (start_next h j))

  -- ---- what building writes

  module _ (h : ℕ) (leaves : List ℕ) (N : Nodes S (k ^ h) leaves) where
    pub level_nodes : (j : ℕ) → j ≤ h → Nodes S (count S h j) (level S h leaves j)
    unfolding level
    level_nodes zero b = N ∙ ap (λ (a : ℕ). a * l) (sym (count_leaves h))
    level_nodes (suc j) b = above_nodes (count S h (suc j)) (level S h leaves j) (level_nodes j (omega arith) ∙ count_rows h j b)

    pub level_rows : (j : ℕ) → j < h → length (level S h leaves j) ≡ count S h (suc j) * (k * l)
    level_rows j b = level_nodes j (omega arith) ∙ count_rows h j b

    -- a node above the leaves is the compression of its row (Rules 4.3)
    pub level_node : (j i : ℕ) → j < h → i < count S h (suc j) → node S i (level S h leaves (suc j)) ≡ compress (row S i (level S h leaves j))
    unfolding level
    level_node j i b c = above_node (count S h (suc j)) i (level S h leaves j) c (level_rows j b)

    pub length-levels : (j : ℕ) → j ≤ suc h → length (joined (level S h leaves) j) ≡ start S h j
    unfolding joined
    length-levels zero b = sym (start_zero h)
    length-levels (suc j) b =
        omega (arith, length-append (joined (level S h leaves) j) (level S h leaves j), length-levels j (omega arith), level_nodes j (omega arith), start_next h j)

    pub build_size : length (build S h leaves) ≡ size S h
    unfolding build size
    build_size = length-levels (suc h) (omega arith)

    pub built_level : (j : ℕ) → j ≤ h → stored_level S h (build S h leaves) j ≡ level S h leaves j
    unfolding build stored_level
    built_level j b =
        part_joined (level S h leaves) j (suc h) (start S h j) (count S h j * l) (omega arith) (length-levels j (omega arith)) (level_nodes j b)

    pub root_level_lem : length (level S h leaves h) ≡ l
    root_level_lem = level_nodes h (omega arith) ∙ ap (λ (a : ℕ). a * l) (count_root h) ∙ one-mul l

    -- the last l words are the last level
    pub root_build : root S (build S h leaves) ≡ level S h leaves h
    unfolding root build joined
    root_build =
        let L : List ℕ = joined (level S h leaves) h in
        let R : List ℕ = level S h leaves h in
        let e : length (L ++ R) - l ≡ length L + 0 = omega (arith, length-append L R, root_level_lem) in
        ap (λ (a : ℕ). drop a (L ++ R)) e ∙ drop-append-add L R 0

  -- the only store with these leaves whose every node above them compresses its row
  pub build_only : (h : ℕ) (leaves store : List ℕ) → Nodes S (k ^ h) leaves → length store ≡ size S h → stored_level S h store 0 ≡ leaves
      → ((j i : ℕ) → j < h → i < count S h (suc j) → node S i (stored_level S h store (suc j)) ≡ compress (row S i (stored_level S h store j)))
      → store ≡ build S h leaves
  unfolding build size level
  build_only h leaves store N whole bottom each =
      sym (take_all (start S h (suc h)) store (omega arith))
      ∙ sym (all_levels h store whole (suc h) (omega arith))
      ∙ joined_same (stored_level S h store) (level S h leaves) (suc h) (λ j b. levels j (omega arith))
    where
      levels : (j : ℕ) → j ≤ h → stored_level S h store j ≡ level S h leaves j
      levels zero b = bottom
      levels (suc j) b =
          nodes_only (count S h (suc j)) (stored_level S h store (suc j)) (level S h leaves (suc j)) (stored_nodes h store whole (suc j) b) (level_nodes h leaves N (suc j) b)
          (λ i c. each j i b c ∙ ap (λ (z : List ℕ). compress (row S i z)) (levels j (omega arith)) ∙ sym (level_node h leaves N j i b c))

  -- ---- words

  module _ (p : ℕ) (W : KeepsWords p S) where
    pub above_words : (n : ℕ) (xs : List ℕ) → length xs ≡ n * (k * l) → all_words p xs ≡ true → all_words p (above S n xs) ≡ true
    unfolding above
    above_words n xs e w =
        words_joined p (λ i. compress (row S i xs)) n
        (λ i b. W.words (row S i xs) (length-row n i xs b e) (words_part_lem p (i * (k * l)) (k * l) xs w))

    pub level_words : (h : ℕ) (leaves : List ℕ) → Nodes S (k ^ h) leaves → all_words p leaves ≡ true → (j : ℕ) → j ≤ h → all_words p (level S h leaves j) ≡ true
    unfolding level
    level_words h leaves N w zero b = w
    level_words h leaves N w (suc j) b =
        above_words (count S h (suc j)) (level S h leaves j) (level_rows h leaves N j b) (level_words h leaves N w j (omega arith))

    pub build_words : (h : ℕ) (leaves : List ℕ) → Nodes S (k ^ h) leaves → all_words p leaves ≡ true → all_words p (build S h leaves) ≡ true
    unfolding build
    build_words h leaves N w = words_joined p (level S h leaves) (suc h) (λ j b. level_words h leaves N w j (omega arith))
