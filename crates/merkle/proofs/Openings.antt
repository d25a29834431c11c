-- Openings and paths: their lengths and words, a level's part, and that a place's own leaf and opening end in the root.
use mathlib.Core.Path.{◌≡◌, refl, sym, ap, ◌∙◌}
use mathlib.Core.Bool.{true}
use mathlib.Core.List.{List, ◌++◌}
use Prim.Native.Nat.{ℕ, zero, suc, ◌+◌, ◌*◌, ◌-◌, ◌/◌, ◌%◌, ◌^◌, ◌≤◌, ◌<◌}
use native.Mathlib.Nat.{pow-zero, pow-suc, zero-mul, suc-mul, div-div-eq-div-mul, div-one}
use native.Mathlib.Omega.{arith}
use lib.ListN.{length, take, drop, get_or, length-append, length-drop, take-append-drop}
use lib.Seq.{length-take-le, get_or-take, get_or-drop, take_at, drop_at, drop-drop}
use Rattle.modular.specs.Arithmetic.{all_words}
use Rattle.modular.proofs.Words.{words_append, words_take, words_drop}
use Rattle.merkle.specs.Lists.{part}
use Rattle.merkle.specs.Levels.{Shape, Regular, KeepsWords, Nodes, node, row, count, level, build, start, size, stored_level, root}
use Rattle.merkle.specs.Openings.{over, child, without, sibling_size, opening_at, opening, siblings_at, put_back, row_with, path_node, path_row, accepts}
use Rattle.merkle.proofs.Lists.{get_d_left, get_d_right, length_part, part_part, part_middle, part_whole, part_joined_even, length-joined_even, eq_same, words_part_lem, words_joined}
use Rattle.merkle.proofs.Levels.{fits, count_down, count_leaves, count_root, place_in_row, child_fits, parent_below, length-node, length-row, length-stored_row, level_rows, level_node, build_size, built_level, root_level_lem, root_build}

module _ (S : Shape) (G : Regular S) where
  open S use {arity as k, node_size as l, compress}

  -- ---- the node of level j over a place

  pub over_leaf : (q : ℕ) → over S q 0 ≡ q
  over_leaf q = ap (λ (a : ℕ). q / a) (pow-zero k) ∙ div-one q

  pub over_next : (q j : ℕ) → over S q (suc j) ≡ over S q j / k
  over_next q j = ap (λ (a : ℕ). q / a) (pow-suc k j) ∙ sym (div-div-eq-div-mul q (k ^ j) k)

  pub over_below : (h q j : ℕ) → q < k ^ h → j ≤ h → over S q j < count S h j
  over_below h q zero a b = rw (over_leaf q, count_leaves S G h) a
  over_below h q (suc j) a b =
      rw (over_next q j) (parent_below S G (count S h (suc j)) (over S q j) (rw (count_down S G h j b) at (over_below h q j a (omega arith))))

  pub parent_inside : (h q j : ℕ) → q < k ^ h → j < h → over S q j / k < count S h (suc j)
  parent_inside h q j a b = rw (over_next q j) at (over_below h q (suc j) a b)

  pub over_root : (h q : ℕ) → q < k ^ h → over S q h ≡ 0
  over_root h q a = omega (arith, over_below h q h a (omega arith), count_root S G h)

  -- ---- a node left out of its row, and put back

  -- a row but one node
  pub but_one : sibling_size S + l ≡ k * l
  but_one = let e : suc (k - 1) ≡ k = omega (arith, G.several) in sym (suc-mul (k - 1) l) ∙ ap (λ (a : ℕ). a * l) e

  pub before_child : (q j : ℕ) → child S q j * l ≤ sibling_size S
  before_child q j = omega (arith, child_fits S G (over S q j), but_one)

  pub length_without : (c : ℕ) (nodes : List ℕ) → c * l + l ≤ k * l → length nodes ≡ k * l → length (without S c nodes) ≡ sibling_size S
  unfolding without
  length_without c nodes b e =
      omega (arith, length-append (take (c * l) nodes) (drop (c * l + l) nodes), length-take-le (c * l) nodes (omega arith), length-drop (c * l + l) nodes, but_one)

  -- its words by index
  module _ (c : ℕ) (nodes : List ℕ) (b : c * l + l ≤ length nodes) where
    pub without_before : (i : ℕ) → i < c * l → get_or (without S c nodes) i 0 ≡ get_or nodes i 0
    unfolding without
    without_before i a =
        get_d_left i (c * l) (take (c * l) nodes) (drop (c * l + l) nodes) (length-take-le (c * l) nodes (omega arith)) a ∙ get_or-take (c * l) nodes i 0 a

    pub without_behind : (i : ℕ) → get_or (without S c nodes) (c * l + i) 0 ≡ get_or nodes (c * l + l + i) 0
    unfolding without
    without_behind i =
        get_d_right i (c * l) (take (c * l) nodes) (drop (c * l + l) nodes) (length-take-le (c * l) nodes (omega arith)) ∙ get_or-drop (c * l + l) nodes i 0

  pub back_again : (c : ℕ) (nodes : List ℕ) → c * l + l ≤ k * l → length nodes ≡ k * l → put_back S c (node S c nodes) (without S c nodes) ≡ nodes
  unfolding put_back without
  back_again c nodes b e =
      let f : length (take (c * l) nodes) ≡ c * l = length-take-le (c * l) nodes (omega arith) in
      rw (take_at (take (c * l) nodes) (drop (c * l + l) nodes) (c * l) f, drop_at (take (c * l) nodes) (drop (c * l + l) nodes) (c * l) f, ← drop-drop l (c * l) nodes, take-append-drop l (drop (c * l) nodes))
      (take-append-drop (c * l) nodes)

  module _ (c : ℕ) (own siblings : List ℕ) (b : c * l ≤ sibling_size S) (lo : length own ≡ l) (ls : length siblings ≡ sibling_size S) where
    pub length-put_back : length (put_back S c own siblings) ≡ k * l
    unfolding put_back
    length-put_back =
        omega (arith, length-append (take (c * l) siblings) (own ++ drop (c * l) siblings), length-append own (drop (c * l) siblings), length-drop (c * l) siblings, length-take-le (c * l) siblings (omega arith), but_one)

    -- its words by index
    pub put_back_before : (i : ℕ) → i < c * l → get_or (put_back S c own siblings) i 0 ≡ get_or siblings i 0
    unfolding put_back
    put_back_before i a =
        get_d_left i (c * l) (take (c * l) siblings) (own ++ drop (c * l) siblings) (length-take-le (c * l) siblings (omega arith)) a ∙ get_or-take (c * l) siblings i 0 a

    pub put_back_own : (i : ℕ) → i < l → get_or (put_back S c own siblings) (c * l + i) 0 ≡ get_or own i 0
    unfolding put_back
    put_back_own i a =
        get_d_right i (c * l) (take (c * l) siblings) (own ++ drop (c * l) siblings) (length-take-le (c * l) siblings (omega arith))
        ∙ get_d_left i l own (drop (c * l) siblings) lo a

    pub put_back_behind : (i : ℕ) → get_or (put_back S c own siblings) (c * l + (l + i)) 0 ≡ get_or siblings (c * l + i) 0
    unfolding put_back
    put_back_behind i =
        get_d_right (l + i) (c * l) (take (c * l) siblings) (own ++ drop (c * l) siblings) (length-take-le (c * l) siblings (omega arith))
        ∙ get_d_right i l own (drop (c * l) siblings) lo ∙ get_or-drop (c * l) siblings i 0

    -- the node can be read back from its row, and so can the siblings
    pub own_node : node S c (put_back S c own siblings) ≡ own
    unfolding put_back
    own_node = part_middle l (c * l) (take (c * l) siblings) own (drop (c * l) siblings) (length-take-le (c * l) siblings (omega arith)) lo

    pub own_siblings : without S c (put_back S c own siblings) ≡ siblings
    unfolding put_back without
    own_siblings =
        let f : length (take (c * l) siblings) ≡ c * l = length-take-le (c * l) siblings (omega arith) in
        rw (
          take_at (take (c * l) siblings) (own ++ drop (c * l) siblings) (c * l) f,
          ← drop-drop l (c * l) (take (c * l) siblings ++ (own ++ drop (c * l) siblings)),
          drop_at (take (c * l) siblings) (own ++ drop (c * l) siblings) (c * l) f,
          drop_at own (drop (c * l) siblings) l lo,
        )
        (take-append-drop (c * l) siblings)

  -- ---- the opening of a place in any store

  module _ (h q : ℕ) (store : List ℕ) (whole : length store ≡ size S h) (inside : q < k ^ h) where
    pub length-opening_at : (j : ℕ) → j < h → length (opening_at S h q store j) ≡ sibling_size S
    unfolding opening_at
    length-opening_at j b =
        length_without (child S q j) (row S (over S q j / k) (stored_level S h store j)) (child_fits S G (over S q j))
        (length-stored_row S G h store whole j (over S q j / k) b (parent_inside h q j inside b))

    -- its length (Rules 4.7)
    pub length-opening : length (opening S h q store) ≡ h * sibling_size S
    unfolding opening
    length-opening = length-joined_even (opening_at S h q store) (sibling_size S) h length-opening_at

    -- its part for level j
    pub opening_part : (j : ℕ) → j < h → siblings_at S (opening S h q store) j ≡ opening_at S h q store j
    unfolding opening siblings_at
    opening_part j b = part_joined_even (opening_at S h q store) (sibling_size S) j h b length-opening_at

  pub opening_words_lem : (p h q : ℕ) (store : List ℕ) → all_words p store ≡ true → all_words p (opening S h q store) ≡ true
  unfolding opening opening_at without stored_level
  opening_words_lem p h q store w =
      words_joined p (opening_at S h q store) h (λ j b.
      let R : List ℕ = row S (over S q j / k) (stored_level S h store j) in
      let r : all_words p R ≡ true = words_part_lem p (over S q j / k * (k * l)) (k * l) (stored_level S h store j) (words_part_lem p (start S h j) (count S h j * l) store w) in
      words_append p (take (child S q j * l) R) (drop (child S q j * l + l) R) (words_take p (child S q j * l) R r) (words_drop p (child S q j * l + l) R r))

  -- ---- the path from a leaf

  pub path_leaf : (q : ℕ) (leaf siblings : List ℕ) → path_node S q leaf siblings 0 ≡ leaf
  unfolding path_node
  path_leaf q leaf siblings = refl

  pub path_next : (q : ℕ) (leaf siblings : List ℕ) (j : ℕ) → path_node S q leaf siblings (suc j) ≡ compress (path_row S q leaf siblings j)
  unfolding path_node path_row
  path_next q leaf siblings j = refl

  pub length-siblings_at : (h : ℕ) (siblings : List ℕ) → length siblings ≡ h * sibling_size S → (j : ℕ) → j < h → length (siblings_at S siblings j) ≡ sibling_size S
  unfolding siblings_at
  length-siblings_at h siblings e j b = length_part (j * sibling_size S) (sibling_size S) siblings (omega (arith, fits (sibling_size S) h j b))

  module _ (h q : ℕ) (leaf siblings : List ℕ) (lf : length leaf ≡ l) (ls : length siblings ≡ h * sibling_size S) where
    length-row_with : (j : ℕ) (own : List ℕ) → j < h → length own ≡ l → length (row_with S q siblings j own) ≡ k * l
    unfolding row_with
    length-row_with j own b e = length-put_back (child S q j) own (siblings_at S siblings j) (before_child q j) e (length-siblings_at h siblings ls j b)

    pub length-path_node : (j : ℕ) → j ≤ h → length (path_node S q leaf siblings j) ≡ l
    unfolding path_node
    length-path_node zero b = lf
    length-path_node (suc j) b =
        G.sized (row_with S q siblings j (path_node S q leaf siblings j)) (length-row_with j (path_node S q leaf siblings j) b (length-path_node j (omega arith)))

    pub length-path_row : (j : ℕ) → j < h → length (path_row S q leaf siblings j) ≡ k * l
    unfolding path_row
    length-path_row j b = length-row_with j (path_node S q leaf siblings j) b (length-path_node j (omega arith))

    -- the node stands in its row at its own place
    pub path_node_in_row : (j : ℕ) → j < h → node S (child S q j) (path_row S q leaf siblings j) ≡ path_node S q leaf siblings j
    unfolding path_row row_with
    path_node_in_row j b =
        own_node (child S q j) (path_node S q leaf siblings j) (siblings_at S siblings j) (before_child q j) (length-path_node j (omega arith)) (length-siblings_at h siblings ls j b)

    -- and the siblings beside it
    pub path_siblings_in_row : (j : ℕ) → j < h → without S (child S q j) (path_row S q leaf siblings j) ≡ siblings_at S siblings j
    unfolding path_row row_with
    path_siblings_in_row j b =
        own_siblings (child S q j) (path_node S q leaf siblings j) (siblings_at S siblings j) (before_child q j) (length-path_node j (omega arith)) (length-siblings_at h siblings ls j b)

    module _ (p : ℕ) (W : KeepsWords p S) (wl : all_words p leaf ≡ true) (ws : all_words p siblings ≡ true) where
      row_with_words : (j : ℕ) (own : List ℕ) → all_words p own ≡ true → all_words p (row_with S q siblings j own) ≡ true
      unfolding row_with put_back siblings_at
      row_with_words j own w =
          let c : ℕ = child S q j * l in
          let X : List ℕ = siblings_at S siblings j in
          let x : all_words p X ≡ true = words_part_lem p (j * sibling_size S) (sibling_size S) siblings ws in
          words_append p (take c X) (own ++ drop c X) (words_take p c X x) (words_append p own (drop c X) w (words_drop p c X x))

      pub path_node_words : (j : ℕ) → j ≤ h → all_words p (path_node S q leaf siblings j) ≡ true
      unfolding path_node
      path_node_words zero b = wl
      path_node_words (suc j) b =
          let R : List ℕ = row_with S q siblings j (path_node S q leaf siblings j) in
          W.words R (length-row_with j (path_node S q leaf siblings j) b (length-path_node j (omega arith)))
          (row_with_words j (path_node S q leaf siblings j) (path_node_words j (omega arith)))

      pub path_row_words : (j : ℕ) → j < h → all_words p (path_row S q leaf siblings j) ≡ true
      unfolding path_row
      path_row_words j b = row_with_words j (path_node S q leaf siblings j) (path_node_words j (omega arith))

  -- ---- a place's own leaf and opening

  module _ (h q : ℕ) (leaves : List ℕ) (N : Nodes S (k ^ h) leaves) (inside : q < k ^ h) where
    -- the opening's part for level j is of that level
    pub built_part : (j : ℕ) → j < h
        → siblings_at S (opening S h q (build S h leaves)) j ≡ without S (child S q j) (row S (over S q j / k) (level S h leaves j))
    unfolding opening_at
    built_part j b =
        opening_part h q (build S h leaves) (build_size S G h leaves N) inside j b
        ∙ ap (λ (z : List ℕ). without S (child S q j) (row S (over S q j / k) z)) (built_level S G h leaves N j (omega arith))

    pub length-own_leaf : length (node S q leaves) ≡ l
    length-own_leaf = length-node S G (k ^ h) q leaves inside N

    -- a node of a level is one of its row
    node_of_row : (j : ℕ) → j < h → node S (over S q j) (level S h leaves j) ≡ node S (child S q j) (row S (over S q j / k) (level S h leaves j))
    node_of_row j b =
        let i : ℕ = over S q j in
        let L : List ℕ = level S h leaves j in
        ap (λ (a : ℕ). part a l L) (place_in_row S G i)
        ∙ sym (part_part (i % k * l) l (i / k * (k * l)) (k * l) L (child_fits S G i)
        (omega (arith, fits (k * l) (count S h (suc j)) (i / k) (parent_inside h q j inside b), level_rows S G h leaves N j b)))

    -- the row that is compressed at level j is the level's own, and what it comes to is the level's node
    own_row : (j : ℕ) → j < h → (own : List ℕ) → own ≡ node S (over S q j) (level S h leaves j)
        → row_with S q (opening S h q (build S h leaves)) j own ≡ row S (over S q j / k) (level S h leaves j)
    unfolding row_with
    own_row j b own e =
        let R : List ℕ = row S (over S q j / k) (level S h leaves j) in
        ap (λ (z : List ℕ). put_back S (child S q j) z (siblings_at S (opening S h q (build S h leaves)) j)) (e ∙ node_of_row j b)
        ∙ ap (put_back S (child S q j) (node S (child S q j) R)) (built_part j b)
        ∙ back_again (child S q j) R (child_fits S G (over S q j)) (length-row S G (count S h (suc j)) (over S q j / k) (level S h leaves j) (parent_inside h q j inside b) (level_rows S G h leaves N j b))

    pub own_path : (j : ℕ) → j ≤ h → path_node S q (node S q leaves) (opening S h q (build S h leaves)) j ≡ node S (over S q j) (level S h leaves j)
    unfolding path_node level
    own_path zero b = ap (λ (a : ℕ). node S a leaves) (sym (over_leaf q))
    own_path (suc j) b =
        ap compress (own_row j b (path_node S q (node S q leaves) (opening S h q (build S h leaves)) j) (own_path j (omega arith)))
        ∙ sym (level_node S G h leaves N j (over S q j / k) b (parent_inside h q j inside b))
        ∙ ap (λ (a : ℕ). node S a (level S h leaves (suc j))) (sym (over_next q j))

    pub own_end : path_node S q (node S q leaves) (opening S h q (build S h leaves)) h ≡ root S (build S h leaves)
    own_end =
        own_path h (omega arith)
        ∙ ap (λ (a : ℕ). part a l (level S h leaves h)) (ap (λ (a : ℕ). a * l) (over_root h q inside) ∙ zero-mul l)
        ∙ part_whole l (level S h leaves h) (root_level_lem S G h leaves N)
        ∙ sym (root_build S G h leaves N)

    pub own_accepted : accepts S h (root S (build S h leaves)) q (node S q leaves) (opening S h q (build S h leaves)) ≡ true
    unfolding accepts
    own_accepted = eq_same (path_node S q (node S q leaves) (opening S h q (build S h leaves)) h) (root S (build S h leaves)) own_end
