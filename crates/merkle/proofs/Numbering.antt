-- The numbered forms of building, climb and opening are the plain ones, and every row and node that they touch is inside the store.
use mathlib.Core.Path.{◌≡◌, refl, sym, ap, ◌∙◌}
use mathlib.Core.List.{List, ◌++◌}
use Prim.Native.Nat.{ℕ, zero, suc, ◌+◌, ◌*◌, ◌-◌, ◌/◌, ◌%◌, ◌^◌, ◌≤◌, ◌<◌}
use native.Mathlib.Nat.{mul_assoc, mul_comm, mul-one, mul-zero, suc-mul, add-mul, mul-add, add-suc, add-zero, mul-le-mul_left, mul-le-mul_right, mul-add-div, mul-add-mod_self_left}
use native.Mathlib.Decide.{dec_lt}
use native.Mathlib.Omega.{arith}
use lib.ListN.{length, take}
use lib.Seq.{take-add, take_all, take_at}
use Rattle.merkle.specs.Lists.{part, put, joined, sum}
use Rattle.merkle.specs.Levels.{Shape, Regular, Nodes, node, row, count, level, build, nodes_before, start, size, stored_level}
use Rattle.merkle.specs.Openings.{over, child, without, opening_at, opening}
use Rattle.merkle.specs.Replacement.{Counted, rewrite_node, climb, replace_from}
use Rattle.merkle.specs.Numbering.{rows_before, inner, write_node, fill, number_of, ascend, gather, Numbered}
use Rattle.merkle.proofs.Lists.{part_take, length_part, length-put, take_put, part_put, joined_same, joined_at}
use Rattle.merkle.proofs.Levels.{fits, some_arity, count_down, count_leaves, count_root, before_next, stored_row, stored_node, level_node, built_level, build_size}
use Rattle.merkle.proofs.Openings.{over_leaf, over_next, over_below, parent_inside}
use Rattle.merkle.proofs.Replacement.{length-climb, leaf_fits}

module _ (S : Shape) (G : Regular S) where
  open S use {arity as k, node_size as l, compress}

  -- ---- numbers

  pub rows_none : (h : ℕ) → rows_before S h 0 ≡ 0
  unfolding rows_before sum
  rows_none h = refl

  pub rows_next : (h j : ℕ) → rows_before S h (suc j) ≡ rows_before S h j + count S h (suc j)
  unfolding rows_before sum
  rows_next h j = refl

  -- the nodes before a level are k times the rows, and all but the leaves are the rows before the level below
  pub nodes_rows : (h j : ℕ) → j ≤ h → nodes_before S h j ≡ k * rows_before S h j
  unfolding nodes_before rows_before sum
  nodes_rows h zero b = sym (mul-zero k)
  nodes_rows h (suc j) b =
      omega (arith, nodes_rows h j (omega arith), count_down S G h j b, mul_comm (count S h (suc j)) k, mul-add k (rows_before S h j) (count S h (suc j)))

  pub nodes_above_lem : (h j : ℕ) → nodes_before S h (suc j) ≡ k ^ h + rows_before S h j
  unfolding nodes_before rows_before sum
  nodes_above_lem h zero = omega (arith, count_leaves S G h)
  nodes_above_lem h (suc j) = omega (arith, nodes_above_lem h j)

  pub size_inner : (h : ℕ) → size S h ≡ (k ^ h + inner S h) * l
  unfolding size start inner
  size_inner h = ap (λ (a : ℕ). a * l) (nodes_above_lem h h)

  -- all nodes but the root are in rows
  pub in_rows : (h : ℕ) → k * inner S h + 1 ≡ k ^ h + inner S h
  unfolding inner
  in_rows h = omega (arith, nodes_rows h h (omega arith), before_next S G h h, count_root S G h, nodes_above_lem h h)

  -- row n and its nodes stand before node w + n
  pub nodes_of_row : (h n : ℕ) → n < inner S h → suc n * k ≤ k ^ h + n
  nodes_of_row h n b =
      let d : ℕ = inner S h - suc n in
      let e : inner S h ≡ suc n + d = omega arith in
      let f : k * inner S h ≡ k * suc n + k * d = ap (λ (a : ℕ). k * a) e ∙ mul-add k (suc n) d in
      let g : d * 1 ≤ d * k = mul-le-mul_left d (some_arity S G) in
      omega (arith, in_rows h, mul-one d, mul_comm k (suc n), mul_comm d k)

  pub row_before : (h n : ℕ) → n < inner S h → n * (k * l) + k * l ≤ (k ^ h + n) * l
  row_before h n b = omega (arith, mul-le-mul_right l (nodes_of_row h n b), mul_assoc (suc n) k l, suc-mul n (k * l))

  pub node_inside : (h n : ℕ) → n < inner S h → (k ^ h + n) * l + l ≤ size S h
  node_inside h n b =
      let c : k ^ h + n < k ^ h + inner S h = omega arith in
      omega (arith, fits l (k ^ h + inner S h) (k ^ h + n) c, size_inner h)

  rows_further : (h j d : ℕ) → rows_before S h j ≤ rows_before S h (j + d)
  rows_further h j zero = let e : rows_before S h (j + 0) ≡ rows_before S h j = ap (rows_before S h) (add-zero j) in omega arith
  rows_further h j (suc d) =
      let e : rows_before S h (j + suc d) ≡ rows_before S h (suc (j + d)) = ap (rows_before S h) (add-suc j d) in
      omega (arith, rows_further h j d, rows_next h (j + d))

  pub rows_rise : (h i j : ℕ) → i ≤ j → rows_before S h i ≤ rows_before S h j
  rows_rise h i j b =
      let e : rows_before S h j ≡ rows_before S h (i + (j - i)) = let f : j ≡ i + (j - i) = omega arith in ap (rows_before S h) f in
      omega (arith, rows_further h i (j - i))

  pub number_inner : (h j i : ℕ) → j < h → i < count S h (suc j) → rows_before S h j + i < inner S h
  unfolding inner
  number_inner h j i b c = omega (arith, rows_next h j, rows_rise h (suc j) h b)

  -- ---- rows and nodes by number

  start_rows : (h j i : ℕ) → j ≤ h → start S h j + i * (k * l) ≡ (rows_before S h j + i) * (k * l)
  unfolding start
  start_rows h j i b =
      omega (arith, ap (λ (a : ℕ). a * l) (nodes_rows h j b ∙ mul_comm k (rows_before S h j)), mul_assoc (rows_before S h j) k l, add-mul (rows_before S h j) i (k * l))

  start_nodes : (h j i : ℕ) → start S h (suc j) + i * l ≡ (k ^ h + (rows_before S h j + i)) * l
  unfolding start
  start_nodes h j i =
      let e : k ^ h + (rows_before S h j + i) ≡ nodes_before S h (suc j) + i = omega (arith, nodes_above_lem h j) in
      sym (ap (λ (a : ℕ). a * l) e ∙ add-mul (nodes_before S h (suc j)) i l)

  pub row_number : (h j i : ℕ) (store : List ℕ) → length store ≡ size S h → j < h → i < count S h (suc j)
      → row S i (stored_level S h store j) ≡ row S (rows_before S h j + i) store
  row_number h j i store e b c = stored_row S G h store e j i b c ∙ ap (λ (a : ℕ). part a (k * l) store) (start_rows h j i (omega arith))

  pub node_number : (h j i : ℕ) (store : List ℕ) → length store ≡ size S h → j < h → i < count S h (suc j)
      → node S i (stored_level S h store (suc j)) ≡ node S (k ^ h + (rows_before S h j + i)) store
  node_number h j i store e b c = stored_node S G h store e (suc j) i b c ∙ ap (λ (a : ℕ). part a l store) (start_nodes h j i)

  pub rewrite_number : (h j i : ℕ) (s : Counted) → length s.store ≡ size S h → j < h → i < count S h (suc j)
      → rewrite_node S h j i s ≡ write_node S (k ^ h) (rows_before S h j + i) s
  unfolding rewrite_node write_node
  rewrite_number h j i s e b c =
      let r : put s.store (start S h (suc j) + i * l) (compress (row S i (stored_level S h s.store j)))
      ≡ put s.store ((k ^ h + (rows_before S h j + i)) * l) (compress (row S (rows_before S h j + i) s.store)) =
      ap (λ (a : ℕ). put s.store a (compress (row S i (stored_level S h s.store j)))) (start_nodes h j i)
      ∙ ap (λ (z : List ℕ). put s.store ((k ^ h + (rows_before S h j + i)) * l) (compress z)) (row_number h j i s.store e b c) in
      λ d. record { store = r d; made = s.made + 1 }

  -- ---- building, node by node

  -- each node above the leaves is one of a level
  record Position (h n : ℕ) : Type 0 where
    pub at_level : ℕ
    pub at_node : ℕ
    pub level_below : at_level < h
    pub node_below : at_node < count S h (suc at_level)
    pub is : n ≡ rows_before S h at_level + at_node

  position : (h m n : ℕ) → m ≤ h → n < rows_before S h m → Position h n
  position h zero n b c = absurd (omega (arith, rows_none h))
  position h (suc m) n b c = go (dec_lt n (rows_before S h m)) (position h m n (omega arith))
    where
      go : Dec (n < rows_before S h m) → (n < rows_before S h m → Position h n) → Position h n
      go (yes a) ih = ih a
      go (no a) ih =
          record {
            at_level = m;
            at_node = n - rows_before S h m;
            level_below = b;
            node_below = omega (arith, rows_next h m);
            is = omega arith;
          }

  pub node_law : (h : ℕ) (leaves : List ℕ) → Nodes S (k ^ h) leaves → (n : ℕ) → n < inner S h
      → node S (k ^ h + n) (build S h leaves) ≡ compress (row S n (build S h leaves))
  unfolding inner
  node_law h leaves N n b =
      let P = position h h n (omega arith) b in
      let B : List ℕ = build S h leaves in
      let j : ℕ = P.at_level in
      let i : ℕ = P.at_node in
      let e : length B ≡ size S h = build_size S G h leaves N in
      ap (λ (a : ℕ). node S (k ^ h + a) B) P.is
      ∙ sym (node_number h j i B e P.level_below P.node_below)
      ∙ ap (node S i) (built_level S G h leaves N (suc j) P.level_below)
      ∙ level_node S G h leaves N j i P.level_below P.node_below
      ∙ ap (λ (z : List ℕ). compress (row S i z)) (sym (built_level S G h leaves N j (omega (arith, P.level_below))))
      ∙ ap compress (row_number h j i B e P.level_below P.node_below)
      ∙ ap (λ (a : ℕ). compress (row S a B)) (sym P.is)

  module _ (h : ℕ) (leaves : List ℕ) (N : Nodes S (k ^ h) leaves) where
    -- the store as a loop leaves it that has written n nodes above the leaves
    pub record Filled (n : ℕ) (store : List ℕ) : Type 0 where
      pub whole : length store ≡ size S h
      pub so_far : take ((k ^ h + n) * l) store ≡ take ((k ^ h + n) * l) (build S h leaves)

    leaves_inside : 0 + length leaves ≤ size S h
    leaves_inside = omega (arith, N, size_inner h, add-mul (k ^ h) (inner S h) l)

    built_leaves : take (length leaves) (build S h leaves) ≡ leaves
    unfolding build joined level
    built_leaves =
        ap (take (length leaves)) (joined_at (level S h leaves) 0 (suc h) (omega arith))
        ∙ take_at leaves (joined (λ i. level S h leaves (suc 0 + i)) (suc h - suc 0)) (length leaves) refl

    pub filled_none : (old : List ℕ) → length old ≡ size S h → Filled 0 (put old 0 leaves)
    filled_none old e =
        let z : (k ^ h + 0) * l ≡ length leaves = ap (λ (a : ℕ). a * l) (add-zero (k ^ h)) ∙ sym N in
        let r : 0 + length leaves ≤ length old = omega (arith, leaves_inside) in
        record { whole = length-put old 0 leaves r ∙ e; so_far = rw z (part_put old 0 leaves r ∙ sym built_leaves) }

    pub filled_more : (n : ℕ) (store : List ℕ) → n < inner S h → Filled n store
        → Filled (suc n) (put store ((k ^ h + n) * l) (compress (row S n store)))
    filled_more n store b F =
        let t : ℕ = k * l in
        let m : ℕ = (k ^ h + n) * l in
        let B : List ℕ = build S h leaves in
        let lB : length B ≡ size S h = build_size S G h leaves N in
        let more : (k ^ h + suc n) * l ≡ m + l = ap (λ (a : ℕ). a * l) (add-suc (k ^ h) n) ∙ suc-mul (k ^ h + n) l in
        let room : m + l ≤ size S h = node_inside h n b in
        let same_row : row S n store ≡ row S n B =
        sym (part_take (n * t) t m store (row_before h n b) (omega (arith, F.whole))) ∙ ap (part (n * t) t) F.so_far ∙ part_take (n * t) t m B (row_before h n b) (omega arith) in
        let D : List ℕ = compress (row S n store) in
        let d : D ≡ node S (k ^ h + n) B = ap compress same_row ∙ sym (node_law h leaves N n b) in
        let lD : length D ≡ l = ap length d ∙ length_part m l B (omega arith) in
        let ok : m + length D ≤ length store = omega (arith, F.whole) in
        let new : part m l (put store m D) ≡ D = ap (λ (a : ℕ). part m a (put store m D)) (sym lD) ∙ part_put store m D ok in
        record {
          whole = length-put store m D ok ∙ F.whole;
          so_far =
              rw more
              (take-add m l (put store m D) ∙ ap (λ (z : List ℕ). z ++ part m l (put store m D)) (take_put store m D ok m (omega arith) ∙ F.so_far)
              ∙ ap (λ (z : List ℕ). take m B ++ z) (new ∙ d) ∙ sym (take-add m l B));
        }

    pub filled_all : (store : List ℕ) → Filled (inner S h) store → store ≡ build S h leaves
    filled_all store F =
        let m : ℕ = (k ^ h + inner S h) * l in
        sym (take_all m store (omega (arith, F.whole, size_inner h))) ∙ F.so_far ∙ take_all m (build S h leaves) (omega (arith, build_size S G h leaves N, size_inner h))

    pub filled : (n : ℕ) (s : Counted) → n ≤ inner S h → Filled 0 s.store → Filled n (fill S (k ^ h) n s).store
    unfolding fill write_node
    filled zero s b F = F
    filled (suc n) s b F = filled_more n (fill S (k ^ h) n s).store b (filled n s (omega arith) F)

    pub fill_build : (old : List ℕ) (c : ℕ) → length old ≡ size S h
        → (fill S (k ^ h) (inner S h) (record { store = put old 0 leaves; made = c })).store ≡ build S h leaves
    fill_build old c e =
        filled_all (fill S (k ^ h) (inner S h) (record { store = put old 0 leaves; made = c })).store
        (filled (inner S h) (record { store = put old 0 leaves; made = c }) (omega arith) (filled_none old e))

  -- ---- the climb and the opening

  module _ (h q : ℕ) (inside : q < k ^ h) where
    row_of : (j f : ℕ) → j ≤ h → f ≡ nodes_before S h j + over S q j → f / k ≡ rows_before S h j + over S q (suc j)
    row_of j f b e =
        ap (λ (a : ℕ). a / k) (e ∙ ap (λ (a : ℕ). a + over S q j) (nodes_rows h j b))
        ∙ mul-add-div (some_arity S G) (rows_before S h j) (over S q j)
        ∙ ap (λ (a : ℕ). rows_before S h j + a) (sym (over_next S G q j))

    pub number_at : (j : ℕ) → j ≤ h → number_of S (k ^ h) q j ≡ nodes_before S h j + over S q j
    unfolding number_of nodes_before sum
    number_at zero b = omega (arith, over_leaf S G q)
    number_at (suc j) b =
        omega (arith, row_of j (number_of S (k ^ h) q j) (omega arith) (number_at j (omega arith)), nodes_above_lem h j)

    -- the number of its row, and where it stands there
    pub number_row : (j : ℕ) → j ≤ h → number_of S (k ^ h) q j / k ≡ rows_before S h j + over S q (suc j)
    number_row j b = row_of j (number_of S (k ^ h) q j) b (number_at j b)

    pub number_child : (j : ℕ) → j < h → number_of S (k ^ h) q j % k ≡ child S q j
    number_child j b =
        ap (λ (a : ℕ). a % k) (number_at j (omega arith) ∙ ap (λ (a : ℕ). a + over S q j) (nodes_rows h j (omega arith)))
        ∙ mul-add-mod_self_left k (rows_before S h j) (over S q j)

    -- so its row and the node above it are inside the store
    pub row_inner : (j : ℕ) → j < h → number_of S (k ^ h) q j / k < inner S h
    row_inner j b = rw (number_row j (omega arith)) (number_inner h j (over S q (suc j)) b (over_below S G h q (suc j) inside b))

    pub climb_ascend : (j : ℕ) (s : Counted) → j ≤ h → length s.store ≡ size S h → climb S h q j s ≡ ascend S (k ^ h) q j s
    unfolding climb ascend
    climb_ascend zero s b e = refl
    climb_ascend (suc j) s b e =
        rewrite_number h j (over S q (suc j)) (climb S h q j s) (length-climb S G h q inside j s (omega arith) e) b (over_below S G h q (suc j) inside b)
        ∙ ap (λ (a : ℕ). write_node S (k ^ h) a (climb S h q j s)) (sym (number_row j (omega arith)))
        ∙ ap (write_node S (k ^ h) (number_of S (k ^ h) q j / k)) (climb_ascend j s (omega arith) e)

    pub replace_ascend : (leaf : List ℕ) (s : Counted) → length leaf ≡ l → length s.store ≡ size S h
        → replace_from S h q leaf s ≡ ascend S (k ^ h) q h (record { store = put s.store (q * l) leaf; made = s.made })
    unfolding replace_from
    replace_ascend leaf s e f =
        climb_ascend h (record { store = put s.store (q * l) leaf; made = s.made }) (omega arith)
        (length-put s.store (q * l) leaf (leaf_fits S G h q inside leaf s.store e f) ∙ f)

    pub opening_gather : (store : List ℕ) → length store ≡ size S h → opening S h q store ≡ gather S (k ^ h) q store h
    unfolding opening opening_at gather
    opening_gather store e =
        joined_same (opening_at S h q store) (λ i. without S (number_of S (k ^ h) q i % k) (row S (number_of S (k ^ h) q i / k) store)) h
        (λ j b.
        ap (without S (child S q j)) (row_number h j (over S q j / k) store e b (parent_inside S G h q j inside b))
        ∙ ap (λ (a : ℕ). without S (child S q j) (row S a store)) (ap (λ (a : ℕ). rows_before S h j + a) (sym (over_next S G q j)) ∙ sym (number_row j (omega arith)))
        ∙ ap (λ (a : ℕ). without S a (row S (number_of S (k ^ h) q j / k) store)) (sym (number_child j b)))

pub numbered : (S : Shape) → Regular S → Numbered S
numbered S G =
    record {
      words = size_inner S G;
      node = node_law S G;
      filled = λ h leaves old c N e. fill_build S G h leaves N old c e;
      climbed = λ h q j s b c e. climb_ascend S G h q b j s c e;
      gathered = λ h q store b e. opening_gather S G h q b store e;
    }
