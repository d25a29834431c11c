-- Level by level, each node above the places once: that settles any store, a replacement is the same for one place, and so the changes done singly
-- leave the one store that a pass over the levels leaves.
use mathlib.Core.Path.{◌≡◌, refl, sym, ap, ◌∙◌}
use mathlib.Core.Bool.{true}
use mathlib.Core.List.{List, [], ◌∷◌, map}
use Prim.Native.Nat.{ℕ, zero, suc, ◌+◌, ◌*◌, ◌^◌, ◌≤◌, ◌<◌}
use native.Mathlib.Nat.{zero-add}
use native.Mathlib.Omega.{arith}
use lib.ListN.{length}
use Rattle.repeats.specs.Repeats.{member}
use Rattle.repeats.proofs.Members.{member_first}
use Rattle.merkle.specs.Lists.{put, sum}
use Rattle.merkle.specs.Levels.{Shape, Regular, count, size}
use Rattle.merkle.specs.Openings.{over}
use Rattle.merkle.specs.Above.{once, above_at, nodes_above}
use Rattle.merkle.specs.Replacement.{Counted, Change, places_of, rewrite_node, climb, replace_from, replace, singly, push, changed, rewrite_all, levelwise}
use Rattle.merkle.specs.Numbering.{rows_before, inner, write_node}
use Rattle.merkle.specs.Statements.{Fitting, LevelByLevel}
use Rattle.merkle.proofs.Members.{member_behind, member_single, member_map, map-member, member_once}
use Rattle.merkle.proofs.Openings.{over_below}
use Rattle.merkle.proofs.Numbering.{rows_none, rows_next, number_inner, rewrite_number}
use Rattle.merkle.proofs.Nodes.{child_level, put_length}
use Rattle.merkle.proofs.Settled.{Inside, Above, level_above, above_level, Compressed, Settled, stands_first, stands_same, stands_none, each_change, settled_once, settled_more}
use Rattle.merkle.proofs.Rising.{Working, Front, front_first, front_last, front_opens, front_closes, rewrite_one}

module _ (S : Shape) (G : Regular S) where
  open S use {arity as k, node_size as l, compress}

  -- ---- the count

  all_made : (h j : ℕ) (is : List ℕ) (s : Counted) → (rewrite_all S h j is s).made ≡ s.made + length is
  unfolding rewrite_all rewrite_node
  all_made h j [] s = omega arith
  all_made h j (i ∷ is) s = omega (arith, all_made h j is (rewrite_node S h j i s))

  levels_made : (h : ℕ) (qs : List ℕ) (j : ℕ) (s : Counted) → (levelwise S h qs j s).made ≡ s.made + sum (λ i. length (above_at k qs (suc i))) j
  unfolding levelwise sum
  levels_made h qs zero s = omega arith
  levels_made h qs (suc j) s = omega (arith, all_made h j (above_at k qs (suc j)) (levelwise S h qs j s), levels_made h qs j s)

  -- ---- the store

  -- any node may wait
  abbrev Any : List ℕ → Type 0
  Any node = Unit {0}

  module _ (h : ℕ) (qs ground : List ℕ) (inside : Inside S G h qs) where
    at_level : (j i : ℕ) → member i (above_at k qs (suc j)) ≡ true → (q : ℕ) × (member q qs ≡ true) × (i ≡ over S q (suc j))
    unfolding above_at
    at_level j i e = map-member (λ q. over S q (suc j)) i qs (sym (member_once i (map (λ q. over S q (suc j)) qs)) ∙ e)

    over_level : (j q : ℕ) → member q qs ≡ true → member (over S q (suc j)) (above_at k qs (suc j)) ≡ true
    unfolding above_at
    over_level j q e = member_once (over S q (suc j)) (map (λ q. over S q (suc j)) qs) ∙ member_map (λ q. over S q (suc j)) q qs e

    -- the rows of level j + 1
    module _ (j : ℕ) (b : j < h) where
      abbrev row_of : ℕ → ℕ
      row_of i = rows_before S h j + i

      all_rewritten : (is : List ℕ) (s : Counted) → ((i : ℕ) → member i is ≡ true → member i (above_at k qs (suc j)) ≡ true)
          → Working S G h Any (rows_before S h j) (rows_before S h (suc j)) (map row_of is) qs ground s.store
          → Working S G h Any (rows_before S h j) (rows_before S h (suc j)) [] qs ground (rewrite_all S h j is s).store
      unfolding rewrite_all write_node
      all_rewritten [] s e X = X
      all_rewritten (i ∷ is) s e X =
          let r = at_level j i (e i (member_first i i is refl)) in
          let c : i < count S h (suc j) = omega (arith, r.2, over_below S G h r.0 (suc j) (inside r.0 r.1) b) in
          let A : Above S G h qs (row_of i) = rw r.2 (level_above S G h qs inside j r.0 b r.1) in
          all_rewritten is (rewrite_node S h j i s) (λ y f. e y (member_behind y i is f))
          (rw (rewrite_number S G h j i s X.whole b c)
          (rewrite_one S G h Any qs ground (rows_before S h j) (rows_before S h (suc j)) (row_of i) (map row_of is) s.store X
          (λ n c d f. child_level S G h j n c b d f) (omega arith) (omega (arith, rows_next S G h j)) (number_inner S G h j i b c) A))

      level_done : (s : Counted) → Front S G h Any (rows_before S h j) qs ground s.store
          → Front S G h Any (rows_before S h (suc j)) qs ground (rewrite_all S h j (above_at k qs (suc j)) s).store
      level_done s X =
          front_closes S G h Any qs ground (rows_before S h j) (rows_before S h (suc j)) (rewrite_all S h j (above_at k qs (suc j)) s).store
          (all_rewritten (above_at k qs (suc j)) s (λ i e. e)
          (front_opens S G h Any qs ground (rows_before S h j) (rows_before S h (suc j)) (map row_of (above_at k qs (suc j))) s.store (omega (arith, rows_next S G h j))
          (λ n c d A.
          let r = above_level S G h qs inside j n A c d in
          ap (λ (a : ℕ). member a (map row_of (above_at k qs (suc j)))) r.2 ∙ member_map row_of (over S r.0 (suc j)) (above_at k qs (suc j)) (over_level j r.0 r.1))
          X))

    levels_done : (j : ℕ) (s : Counted) → j ≤ h → Front S G h Any 0 qs ground s.store → Front S G h Any (rows_before S h j) qs ground (levelwise S h qs j s).store
    unfolding levelwise
    levels_done zero s b X = rw (rows_none S G h) X
    levels_done (suc j) s b X = level_done j b (levelwise S h qs j s) (levels_done j s (omega arith) X)

    pub settled_levelwise : (c : ℕ) → length ground ≡ size S h → Settled S G h qs ground (levelwise S h qs h (record { store = ground; made = c })).store
    unfolding inner
    settled_levelwise c e =
        let s : Counted = record { store = ground; made = c } in
        front_last S G h Any qs ground (levelwise S h qs h s).store
        (levels_done h s (omega arith)
        (front_first S G h Any qs ground ground (stands_first S G h (λ n xs. Unit {0}) qs ground inside e (λ n b A. tt))))

  -- ---- the changes done singly

  climb_levelwise : (h q j : ℕ) (s : Counted) → climb S h q j s ≡ levelwise S h (q ∷ []) j s
  unfolding climb levelwise rewrite_all above_at once member
  climb_levelwise h q zero s = refl
  climb_levelwise h q (suc j) s = ap (rewrite_node S h j (over S q (suc j))) (climb_levelwise h q j s)

  pub settled_replace : (h q : ℕ) (leaf qs ground store : List ℕ) → q < k ^ h → length leaf ≤ l → Settled S G h qs ground store
      → Settled S G h (q ∷ qs) (put ground (q * l) leaf) (replace S h q leaf store).store
  unfolding replace replace_from
  settled_replace h q leaf qs ground store b e X =
      let base : List ℕ = put store (q * l) leaf in
      settled_more S G h q leaf qs ground store (climb S h q h (record { store = base; made = 0 })).store b e X
      (rw (climb_levelwise h q h (record { store = base; made = 0 }))
      (settled_levelwise h (q ∷ []) base (λ r f. omega (arith, member_single r q f)) 0 (put_length S G h store X.whole q leaf (omega arith) (omega arith))))

  pub settled_singly : (h : ℕ) (cs : List Change) (store : List ℕ) → Fitting S h cs → length store ≡ size S h
      → Settled S G h (places_of cs) (changed S cs store) (singly S h cs store)
  unfolding singly
  settled_singly h cs store P e =
      each_change S G h (Settled S G h) (stands_same S G h (Compressed S G h)) (singly S h) (λ c xs. (replace S h c.place c.leaf xs).store)
      (λ xs. refl) (λ c cs xs. refl) (λ c qs ground xs b f X. settled_replace h c.place c.leaf qs ground xs b f X)
      cs store P (stands_none S G h (Compressed S G h) store e)

  pub level_by_level_lem : LevelByLevel S
  unfolding push nodes_above
  level_by_level_lem h cs store P e =
      let X = settled_singly h cs store P e in
      let ground : List ℕ = changed S cs store in
      let s : Counted = record { store = ground; made = 0 } in
      let a : (levelwise S h (places_of cs) h s).store ≡ singly S h cs store =
      settled_once S G h (places_of cs) ground (levelwise S h (places_of cs) h s).store (singly S h cs store)
      (settled_levelwise h (places_of cs) ground X.inside 0 X.grounded) X in
      let b : (levelwise S h (places_of cs) h s).made ≡ sum (λ i. length (above_at k (places_of cs) (suc i))) h =
      levels_made h (places_of cs) h s ∙ zero-add (sum (λ i. length (above_at k (places_of cs) (suc i))) h) in
      λ i. record { store = a i; made = b i }
