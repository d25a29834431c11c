-- Replacements, one or many: their counts and lengths on any store, and that on a built store they leave the one built from the changed leaves.
use mathlib.Core.Path.{◌≡◌, refl, sym, ap, ◌∙◌}
use mathlib.Core.Logic.{◌≢◌}
use mathlib.Core.Bool.{true}
use mathlib.Core.List.{List, [], ◌∷◌, ◌++◌, append_assoc, append-nil}
use Prim.Native.Nat.{ℕ, zero, suc, ◌+◌, ◌*◌, ◌-◌, ◌/◌, ◌^◌, ◌≤◌, ◌<◌}
use native.Mathlib.Decide.{dec_lt}
use native.Mathlib.Omega.{arith}
use lib.ListN.{length, drop}
use lib.Seq.{drop_at, drop-length}
use Rattle.modular.specs.Arithmetic.{all_words}
use Rattle.merkle.specs.Lists.{part, put, joined}
use Rattle.merkle.specs.Levels.{Shape, Regular, KeepsWords, Nodes, row, above, count, level, build, start, size, stored_level}
use Rattle.merkle.specs.Openings.{over}
use Rattle.merkle.specs.Replacement.{Counted, Change, rewrite_node, climb, replace_from, replace, singly, changed}
use Rattle.merkle.specs.Statements.{Proper, LeafWords}
use Rattle.merkle.proofs.Lists.{part_middle, part_put_before, part_put_behind, length-put, put_append, put_inside, joined_put, joined_at, words_part_lem, words_put}
use Rattle.merkle.proofs.Levels.{fits, count_down, count_leaves, place_in_row, child_fits, length-row, length-stored_row, level_inside, start_zero, start_next, level_nodes, level_rows, length-levels, build_size}
use Rattle.merkle.proofs.Openings.{over_leaf, over_next, over_below}

module _ (S : Shape) (G : Regular S) where
  open S use {arity as k, node_size as l, compress}

  -- ---- counts, on any store

  pub climb_made : (h q j : ℕ) (s : Counted) → (climb S h q j s).made ≡ s.made + j
  unfolding climb rewrite_node
  climb_made h q zero s = omega arith
  climb_made h q (suc j) s = omega (arith, climb_made h q j s)

  pub replace_made : (h q : ℕ) (leaf : List ℕ) (s : Counted) → (replace_from S h q leaf s).made ≡ s.made + h
  unfolding replace_from
  replace_made h q leaf s = climb_made h q h (record { store = put s.store (q * l) leaf; made = s.made })

  -- ---- lengths, on any store

  module _ (h q : ℕ) (inside : q < k ^ h) where
    -- the row that is compressed is whole, and the node that is written is there
    pub rewrite_fits : (j : ℕ) (store : List ℕ) → j < h → length store ≡ size S h
        → start S h (suc j) + over S q (suc j) * l + length (compress (row S (over S q (suc j)) (stored_level S h store j))) ≤ length store
    rewrite_fits j store b e =
        let i : ℕ = over S q (suc j) in
        let c : i < count S h (suc j) = over_below S G h q (suc j) inside b in
        omega (arith, G.sized (row S i (stored_level S h store j)) (length-stored_row S G h store e j i b c), fits l (count S h (suc j)) i c, level_inside S G h (suc j) b)

    pub length-climb : (j : ℕ) (s : Counted) → j ≤ h → length s.store ≡ size S h → length (climb S h q j s).store ≡ size S h
    unfolding climb rewrite_node
    length-climb zero s b e = e
    length-climb (suc j) s b e =
        let X : List ℕ = (climb S h q j s).store in
        let x : length X ≡ size S h = length-climb j s (omega arith) e in
        length-put X (start S h (suc j) + over S q (suc j) * l) (compress (row S (over S q (suc j)) (stored_level S h X j))) (rewrite_fits j X b x) ∙ x

    pub leaf_fits : (leaf : List ℕ) (store : List ℕ) → length leaf ≡ l → length store ≡ size S h → q * l + length leaf ≤ length store
    leaf_fits leaf store e f =
        omega (arith, fits l (k ^ h) q inside, level_inside S G h 0 (omega arith), start_zero S G h, ap (λ (a : ℕ). a * l) (count_leaves S G h))

    pub length-replace : (leaf : List ℕ) (s : Counted) → length leaf ≡ l → length s.store ≡ size S h → length (replace_from S h q leaf s).store ≡ size S h
    unfolding replace_from
    length-replace leaf s e f =
        length-climb h (record { store = put s.store (q * l) leaf; made = s.made }) (omega arith) (length-put s.store (q * l) leaf (leaf_fits leaf s.store e f) ∙ f)

    module _ (p : ℕ) (W : KeepsWords p S) where
      pub climb_words : (j : ℕ) (s : Counted) → j ≤ h → length s.store ≡ size S h → all_words p s.store ≡ true → all_words p (climb S h q j s).store ≡ true
      unfolding climb rewrite_node stored_level
      climb_words zero s b e w = w
      climb_words (suc j) s b e w =
          let X : List ℕ = (climb S h q j s).store in
          let i : ℕ = over S q (suc j) in
          let x : all_words p X ≡ true = climb_words j s (omega arith) e w in
          let R : List ℕ = row S i (stored_level S h X j) in
          words_put p X (start S h (suc j) + i * l) (compress R) x
          (W.words R (length-stored_row S G h X (length-climb j s (omega arith) e) j i b (over_below S G h q (suc j) inside b))
          (words_part_lem p (i * (k * l)) (k * l) (stored_level S h X j) (words_part_lem p (start S h j) (count S h j * l) X x)))

      pub replace_words : (leaf : List ℕ) (s : Counted) → length leaf ≡ l → length s.store ≡ size S h → all_words p leaf ≡ true → all_words p s.store ≡ true
          → all_words p (replace_from S h q leaf s).store ≡ true
      unfolding replace_from
      replace_words leaf s e f v w =
          climb_words h (record { store = put s.store (q * l) leaf; made = s.made }) (omega arith)
          (length-put s.store (q * l) leaf (leaf_fits leaf s.store e f) ∙ f) (words_put p s.store (q * l) leaf w v)

  -- ---- levels over changed leaves

  pub put_nodes : (n i : ℕ) (xs v : List ℕ) → i < n → length v ≡ l → Nodes S n xs → Nodes S n (put xs (i * l) v)
  put_nodes n i xs v b e N = length-put xs (i * l) v (omega (arith, fits l n i b)) ∙ N

  -- rows of a level but the one in which a node is put
  other_row : (n q r : ℕ) (xs v : List ℕ) → q < n * k → length v ≡ l → length xs ≡ n * (k * l) → r ≢ q / k → row S r (put xs (q * l) v) ≡ row S r xs
  other_row n q r xs v b e f d = go (dec_lt r (q / k))
    where
      t : ℕ
      t = k * l

      ok : q * l + length v ≤ length xs
      ok = omega (arith, fits l (n * k) q b, native.Mathlib.Nat.mul_assoc n k l)

      go : Dec (r < q / k) → row S r (put xs (q * l) v) ≡ row S r xs
      go (yes c) = part_put_before xs (q * l) v ok (r * t) t (omega (arith, fits t (q / k) r c, place_in_row S G q))
      go (no c) =
          let a : q / k < r = omega arith in
          part_put_behind xs (q * l) v ok (r * t) t (omega (arith, fits t r (q / k) a, place_in_row S G q, child_fits S G q))

  module _ (h q : ℕ) (leaves leaf : List ℕ) (N : Nodes S (k ^ h) leaves) (inside : q < k ^ h) (e : length leaf ≡ l) where
    -- the levels before and after
    abbrev old : ℕ → List ℕ
    old = level S h leaves

    abbrev new : ℕ → List ℕ
    new = level S h (put leaves (q * l) leaf)

    pub after_nodes : Nodes S (k ^ h) (put leaves (q * l) leaf)
    after_nodes = put_nodes (k ^ h) q leaves leaf inside e N

    new_row : (j : ℕ) → j < h → length (compress (row S (over S q (suc j)) (new j))) ≡ l
    new_row j b =
        let r : ℕ = over S q (suc j) in
        G.sized (row S r (new j)) (length-row S G (count S h (suc j)) r (new j) (over_below S G h q (suc j) inside b) (level_rows S G h (put leaves (q * l) leaf) after_nodes j b))

    -- a level changes in the one node over the place
    changed_next : (j : ℕ) → j < h → (v : List ℕ) → length v ≡ l → new j ≡ put (old j) (over S q j * l) v
        → new (suc j) ≡ put (old (suc j)) (over S q (suc j) * l) (compress (row S (over S q (suc j)) (new j)))
    unfolding level above
    changed_next j b v lv f =
        let n : ℕ = count S h (suc j) in
        let r : ℕ = over S q (suc j) in
        let c : over S q j < n * k = rw (count_down S G h j b) at (over_below S G h q j inside (omega arith)) in
        let d : r ≡ over S q j / k = over_next S G q j in
        joined_put (λ i. compress (row S i (old j))) (λ i. compress (row S i (new j))) l r n (over_below S G h q (suc j) inside b)
        (λ i a. G.sized (row S i (old j)) (length-row S G n i (old j) a (level_rows S G h leaves N j b)))
        (new_row j b)
        (λ i a z. ap compress (ap (row S i) f ∙ other_row n (over S q j) i (old j) v c lv (level_rows S G h leaves N j b) (λ y. z (y ∙ sym d))))

    pub changed_level : (j : ℕ) → j ≤ h → (v : List ℕ) × (length v ≡ l) × (new j ≡ put (old j) (over S q j * l) v)
    unfolding level
    changed_level zero b = (leaf, e, ap (λ (a : ℕ). put leaves (a * l) leaf) (sym (over_leaf S G q)))
    changed_level (suc j) b =
        let r : ℕ = over S q (suc j) in
        let L = changed_level j (omega arith) in
        (compress (row S r (new j)), new_row j b, changed_next j b L.0 L.1 L.2)

    pub new_level : (j : ℕ) → j < h → new (suc j) ≡ put (old (suc j)) (over S q (suc j) * l) (compress (row S (over S q (suc j)) (new j)))
    new_level j b = let L = changed_level j (omega arith) in changed_next j b L.0 L.1 L.2

    -- ---- the climb

    -- the store with levels 0 to j over the changed leaves, and the others as they were
    partly : ℕ → List ℕ
    partly j = joined new (suc j) ++ drop (start S h (suc j)) (build S h leaves)

    rest_at : (j : ℕ) → j < h → drop (start S h (suc j)) (build S h leaves) ≡ old (suc j) ++ drop (start S h (suc (suc j))) (build S h leaves)
    unfolding build joined
    rest_at j b =
        let X : List ℕ = joined (λ i. level S h leaves (suc (suc j) + i)) (suc h - suc (suc j)) in
        let f : joined old (suc h) ≡ joined old (suc j) ++ (old (suc j) ++ X) = joined_at (level S h leaves) (suc j) (suc h) (omega arith) in
        let g : joined old (suc j) ++ (old (suc j) ++ X) ≡ joined old (suc (suc j)) ++ X = sym (append_assoc (joined old (suc j)) (old (suc j)) X) in
        let behind : drop (start S h (suc (suc j))) (joined old (suc h)) ≡ X =
        ap (drop (start S h (suc (suc j)))) (f ∙ g) ∙ drop_at (joined old (suc (suc j))) X (start S h (suc (suc j))) (length-levels S G h leaves N (suc (suc j)) (omega arith)) in
        ap (drop (start S h (suc j))) f
        ∙ drop_at (joined old (suc j)) (old (suc j) ++ X) (start S h (suc j)) (length-levels S G h leaves N (suc j) (omega arith))
        ∙ ap (λ (z : List ℕ). old (suc j) ++ z) (sym behind)

    length-new : (j : ℕ) → j ≤ suc h → length (joined new j) ≡ start S h j
    length-new j b = length-levels S G h (put leaves (q * l) leaf) after_nodes j b

    partly_level : (j : ℕ) → j < h → stored_level S h (partly j) j ≡ new j
    unfolding stored_level partly joined
    partly_level j b =
        let X : List ℕ = drop (start S h (suc j)) (build S h leaves) in
        ap (part (start S h j) (count S h j * l)) (append_assoc (joined new j) (new j) X)
        ∙ part_middle (count S h j * l) (start S h j) (joined new j) (new j) X (length-new j (omega arith)) (level_nodes S G h (put leaves (q * l) leaf) after_nodes j (omega arith))

    partly_next : (j : ℕ) → j < h
        → put (partly j) (start S h (suc j) + over S q (suc j) * l) (compress (row S (over S q (suc j)) (stored_level S h (partly j) j))) ≡ partly (suc j)
    unfolding partly joined
    partly_next j b =
        let r : ℕ = over S q (suc j) in
        let v : List ℕ = compress (row S r (new j)) in
        let X : List ℕ = drop (start S h (suc (suc j))) (build S h leaves) in
        ap (λ (z : List ℕ). put (partly j) (start S h (suc j) + r * l) (compress (row S r z))) (partly_level j b)
        ∙ ap (λ (z : List ℕ). put (joined new (suc j) ++ z) (start S h (suc j) + r * l) v) (rest_at j b)
        ∙ put_inside (joined new (suc j)) (old (suc j)) X (r * l) v (start S h (suc j)) (length-new (suc j) (omega arith))
        (omega (arith, new_row j b, level_nodes S G h leaves N (suc j) b, fits l (count S h (suc j)) r (over_below S G h q (suc j) inside b)))
        ∙ ap (λ (z : List ℕ). joined new (suc j) ++ (z ++ X)) (sym (new_level j b))
        ∙ sym (append_assoc (joined new (suc j)) (new (suc j)) X)

    partly_start : put (build S h leaves) (q * l) leaf ≡ partly 0
    unfolding partly joined build level
    partly_start =
        let X : List ℕ = joined (λ i. level S h leaves (suc 0 + i)) (suc h - suc 0) in
        let f : joined (level S h leaves) (suc h) ≡ leaves ++ X = joined_at (level S h leaves) 0 (suc h) (omega arith) in
        let s : start S h 1 ≡ length leaves = omega (arith, start_next S G h 0, start_zero S G h, ap (λ (a : ℕ). a * l) (count_leaves S G h)) in
        ap (λ (z : List ℕ). put z (q * l) leaf) f
        ∙ put_append leaves (q * l) leaf (omega (arith, fits l (k ^ h) q inside)) X
        ∙ ap (λ (z : List ℕ). put leaves (q * l) leaf ++ z) (sym (ap (drop (start S h 1)) f ∙ drop_at leaves X (start S h 1) (sym s)))

    partly_end : partly h ≡ build S h (put leaves (q * l) leaf)
    unfolding partly build size
    partly_end =
        let B : List ℕ = build S h leaves in
        ap (λ (a : ℕ). joined new (suc h) ++ drop a B) (sym (build_size S G h leaves N))
        ∙ ap (λ (z : List ℕ). joined new (suc h) ++ z) (drop-length B)
        ∙ append-nil (joined new (suc h))

    climbed : (j c : ℕ) → j ≤ h → climb S h q j (record { store = partly 0; made = c }) ≡ record { store = partly j; made = c + j }
    unfolding climb rewrite_node
    climbed zero c b = let z : c ≡ c + 0 = omega arith in λ i. record { store = partly 0; made = z i }
    climbed (suc j) c b =
        let z : c + j + 1 ≡ c + suc j = omega arith in
        ap (rewrite_node S h j (over S q (suc j))) (climbed j c (omega arith))
        ∙ (λ i. record { store = partly_next j b i; made = z i })

    -- a replacement on a built store
    pub replace_build : (c : ℕ) → replace_from S h q leaf (record { store = build S h leaves; made = c })
        ≡ record { store = build S h (put leaves (q * l) leaf); made = c + h }
    unfolding replace_from
    replace_build c =
        ap (λ (z : List ℕ). climb S h q h (record { store = z; made = c })) partly_start
        ∙ climbed h c (omega arith)
        ∙ (λ i. record { store = partly_end i; made = c + h })

  -- ---- changes done singly

  pub changed_nodes : (h : ℕ) (cs : List Change) (leaves : List ℕ) → Proper S h cs → Nodes S (k ^ h) leaves → Nodes S (k ^ h) (changed S cs leaves)
  unfolding changed
  changed_nodes h [] leaves P N = N
  changed_nodes h (c ∷ cs) leaves P N =
      changed_nodes h cs (put leaves (c.place * l) c.leaf) P.2 (put_nodes (k ^ h) c.place leaves c.leaf P.0 P.1 N)

  -- on a built store
  pub singly_build : (h : ℕ) (cs : List Change) (leaves : List ℕ) → Proper S h cs → Nodes S (k ^ h) leaves
      → singly S h cs (build S h leaves) ≡ build S h (changed S cs leaves)
  unfolding singly changed replace
  singly_build h [] leaves P N = refl
  singly_build h (c ∷ cs) leaves P N =
      ap (λ (s : Counted). singly S h cs s.store) (replace_build h c.place leaves c.leaf N P.0 P.1 0)
      ∙ singly_build h cs (put leaves (c.place * l) c.leaf) P.2 (put_nodes (k ^ h) c.place leaves c.leaf P.0 P.1 N)

  pub length-singly : (h : ℕ) (cs : List Change) (store : List ℕ) → Proper S h cs → length store ≡ size S h → length (singly S h cs store) ≡ size S h
  unfolding singly replace
  length-singly h [] store P e = e
  length-singly h (c ∷ cs) store P e =
      length-singly h cs (replace S h c.place c.leaf store).store P.2
      (length-replace h c.place P.0 c.leaf (record { store = store; made = 0 }) P.1 e)

  module _ (p : ℕ) (W : KeepsWords p S) where
    pub singly_words : (h : ℕ) (cs : List Change) (store : List ℕ) → Proper S h cs → LeafWords p cs → length store ≡ size S h → all_words p store ≡ true
        → all_words p (singly S h cs store) ≡ true
    unfolding singly replace
    singly_words h [] store P L e w = w
    singly_words h (c ∷ cs) store P L e w =
        let s : Counted = record { store = store; made = 0 } in
        singly_words h cs (replace S h c.place c.leaf store).store P.2 L.1 (length-replace h c.place P.0 c.leaf s P.1 e)
        (replace_words h c.place P.0 p W c.leaf s P.1 e L.0 w)

  pub changed_words : (p : ℕ) (cs : List Change) (leaves : List ℕ) → LeafWords p cs → all_words p leaves ≡ true → all_words p (changed S cs leaves) ≡ true
  unfolding changed
  changed_words p [] leaves L w = w
  changed_words p (c ∷ cs) leaves L w = changed_words p cs (put leaves (c.place * l) c.leaf) L.1 (words_put p leaves (c.place * l) c.leaf w L.0)
