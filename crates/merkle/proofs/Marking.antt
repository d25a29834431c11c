-- The leaves written and the nodes above them marked. A climb stops at a node that is marked already: then that node is above a place of an earlier
-- change, so are all nodes further up, and they are marked too.
use mathlib.Core.Path.{◌≡◌, refl, sym, ap, ◌∙◌}
use mathlib.Core.Logic.{◌≢◌, ◌⊎◌, inl, inr}
use mathlib.Core.Bool.{Bool, true, false, cond, true≢false}
use mathlib.Core.List.{List, [], ◌∷◌, ◌++◌}
use Prim.Native.Nat.{ℕ, zero, suc, ◌+◌, ◌*◌, ◌-◌, ◌^◌, ◌≤◌, ◌<◌}
use native.Mathlib.Nat.{add-zero, add-suc}
use native.Mathlib.Decide.{ℕ_discrete}
use native.Mathlib.Numerals.{add-one}
use native.Mathlib.Omega.{arith}
use lib.Dec.{eqb}
use lib.ListN.{length, get_or, set, drop, take}
use lib.Seq.{set_split, get_or-set_same}
use borrow.Author.Tests.{eq-eqb}
use Rattle.merkle.specs.Lists.{put}
use Rattle.merkle.specs.Levels.{Shape, Regular, node, size}
use Rattle.merkle.specs.Replacement.{Change, places_of, changed}
use Rattle.merkle.specs.Numbering.{inner, number_of}
use Rattle.merkle.specs.Statements.{Fitting}
use Rattle.merkle.specs.Marks.{is_marked, mark_node, mark_above, mark_change, mark_all}
use Rattle.merkle.proofs.Numbering.{row_inner}
use Rattle.merkle.proofs.Nodes.{first_word, node_fits, put_other}
use Rattle.merkle.proofs.Settled.{row_over, row_next, row_rise, Above, is_above, above_own, above_cases, above_up, Stands, stands_as, stands_same, stands_written, stands_leaf, stands_none, each_change}

module _ (S : Shape) (G : Regular S) (m h : ℕ) where
  open S use {arity as k, node_size as l}

  -- ---- marks

  abbrev pub has_mark : List ℕ → Bool
  has_mark node = eqb (get_or node 0 0) m

  -- node w + n bears the mark
  abbrev pub Bears : ℕ → List ℕ → Type 0
  Bears n store = has_mark (node S (k ^ h + n) store) ≡ true

  pub mark_seen : (n : ℕ) (store : List ℕ) → is_marked S m (k ^ h) n store ≡ has_mark (node S (k ^ h + n) store)
  unfolding is_marked
  mark_seen n store = ap (λ (a : ℕ). eqb a m) (first_word S G (k ^ h + n) store)

  module _ (n : ℕ) (store : List ℕ) (b : n < inner S h) (whole : length store ≡ size S h) where
    word_inside : (k ^ h + n) * l < length store
    word_inside = omega (arith, node_fits S G h (k ^ h + n) (omega arith), G.nonempty)

    mark_put : mark_node S m (k ^ h) n store ≡ put store ((k ^ h + n) * l) (m ∷ [])
    unfolding mark_node put
    mark_put =
        let i : ℕ = (k ^ h + n) * l in
        set_split store i m word_inside ∙ ap (λ (a : ℕ). take i store ++ (m ∷ drop a store)) (sym (add-one i))

    mark_own : Bears n (put store ((k ^ h + n) * l) (m ∷ []))
    unfolding is_marked mark_node
    mark_own =
        let i : ℕ = (k ^ h + n) * l in
        ap (λ (z : List ℕ). has_mark (node S (k ^ h + n) z)) (sym mark_put)
        ∙ sym (mark_seen n (set store i m)) ∙ eq-eqb (get_or (set store i m) i 0) m (get_or-set_same store i m 0 word_inside)

  -- no node above the leaves bears one
  abbrev pub Clean : List ℕ → Type 0
  Clean ground = (n : ℕ) → n < inner S h → has_mark (node S (k ^ h + n) ground) ≡ false

  -- then only nodes above the places can
  pub marked_above : (F : ℕ → List ℕ → Type 0) (qs ground store : List ℕ) → Clean ground → Stands S G h F qs ground store
      → (n : ℕ) → n < inner S h → Bears n store → Above S G h qs n
  marked_above F qs ground store clean X n b B = go (is_above S G h qs n)
    where
      go : Dec (Above S G h qs n) → Above S G h qs n
      go (yes A) = A
      go (no A) = absurd (true≢false (sym B ∙ ap has_mark (X.kept n b A) ∙ clean n b))

  -- ---- the leaves are written, and all nodes above them bear the mark

  abbrev pub Prepared : List ℕ → List ℕ → List ℕ → Type 0
  Prepared qs ground store = Stands S G h Bears qs ground store

  -- one more
  module _ (q : ℕ) (leaf qs ground old : List ℕ) (b : q < k ^ h) (e : length leaf ≤ l) (X : Prepared qs ground old) (clean : Clean ground) where
    abbrev base : List ℕ
    base = put ground (q * l) leaf

    -- row n is that of a node over the place, of a level from i to j - 1
    record OnPath (i j n : ℕ) : Type 0 where
      pub level : ℕ
      pub from : i ≤ level
      pub to : level < j
      pub is : n ≡ row_over S G h q level

    -- after j nodes: as it was, or one of them
    abbrev Touched : ℕ → ℕ → List ℕ → Type 0
    Touched j n store =
        ((node S (k ^ h + n) store ≡ node S (k ^ h + n) old) × (Above S G h qs n ⊎ OnPath j h n)) ⊎ (Bears n store × OnPath 0 j n)

    begun : Stands S G h (Touched 0) (q ∷ qs) base (put old (q * l) leaf)
    begun =
        stands_leaf S G h Bears (Touched 0) q leaf qs ground old b e
        (λ n c A. inl (put_other S G h old X.whole q leaf (omega arith) (omega arith) (k ^ h + n) (λ z. absurd (omega arith)), at n (above_cases S G h q qs n A))) X
      where
        at : (n : ℕ) → ((j : ℕ) × (j < h) × (n ≡ row_over S G h q j)) ⊎ Above S G h qs n → Above S G h qs n ⊎ OnPath 0 h n
        at n (inl r) = inr (record { level = r.0; from = omega arith; to = r.1; is = r.2 })
        at n (inr A) = inl A

    -- from a node above a place listed before, the path goes through such nodes
    path_above : (j d : ℕ) → Above S G h qs (row_over S G h q j) → j + d < h → Above S G h qs (row_over S G h q (j + d))
    path_above j zero A c = rw (add-zero j) A
    path_above j (suc d) A c =
        rw (add-suc j d, row_next S G h q (j + d))
        (above_up S G h qs X.inside (row_over S G h q (j + d)) (path_above j d A (omega arith))
        (rw (row_next S G h q (j + d)) at (row_inner S G h q b (suc (j + d)) (omega arith))))

    -- a climb ends where all further nodes of the path are such
    ends : (j : ℕ) (store : List ℕ) → ((n : ℕ) → OnPath j h n → Above S G h qs n) → Stands S G h (Touched j) (q ∷ qs) base store → Prepared (q ∷ qs) base store
    ends j store further Y = stands_as S G h (Touched j) Bears (q ∷ qs) base store (λ n c A t. at n c t) Y
      where
        at : (n : ℕ) → n < inner S h → Touched j n store → Bears n store
        at n c (inl (z, inl A)) = ap has_mark z ∙ X.above n c A
        at n c (inl (z, inr P)) = ap has_mark z ∙ X.above n c (further n P)
        at n c (inr t) = t.0

    module _ (j : ℕ) (store : List ℕ) (c : j < h) (Y : Stands S G h (Touched j) (q ∷ qs) base store) where
      -- the row of the next node of the path
      abbrev next : ℕ
      next = row_over S G h q j

      next_inner : next < inner S h
      next_inner = row_inner S G h q b j c

      stops : Bears next store → Prepared (q ∷ qs) base store
      stops B = ends j store (λ n P. further n P) Y
        where
          was : Touched j next store → Above S G h qs next
          was (inl t) = marked_above Bears qs ground old clean X next next_inner (ap has_mark (sym t.0) ∙ B)
          was (inr t) = absurd (omega (arith, t.1.is, row_rise S G h q t.1.level j b t.1.to (omega arith)))

          further : (n : ℕ) → OnPath j h n → Above S G h qs n
          further n P =
              let d : ℕ = P.level - j in
              let f : P.level ≡ j + d = omega (arith, P.from) in
              rw (P.is ∙ ap (row_over S G h q) f)
              (path_above j d (was (Y.above next next_inner (above_own S G h q qs j c))) (omega (arith, P.to)))

      goes_on : Stands S G h (Touched (suc j)) (q ∷ qs) base (mark_node S m (k ^ h) next store)
      goes_on =
          rw (mark_put next store next_inner Y.whole)
          (stands_written S G h (Touched j) (Touched (suc j)) (q ∷ qs) base store next (m ∷ []) next_inner (above_own S G h q qs j c) G.nonempty
          (λ n d A t. at n t (ℕ_discrete n next)) Y)
        where
          g : ℕ
          g = k ^ h + next

          other : (n : ℕ) → n ≢ next → node S (k ^ h + n) (put store (g * l) (m ∷ [])) ≡ node S (k ^ h + n) store
          other n d = put_other S G h store Y.whole g (m ∷ []) (omega (arith, next_inner)) G.nonempty (k ^ h + n) (λ z. d (omega arith))

          at : (n : ℕ) → Touched j n store → Dec (n ≡ next) → Touched (suc j) n (put store (g * l) (m ∷ []))
          at n t (yes d) =
              rw d (inr (mark_own next store next_inner Y.whole, record { level = j; from = omega arith; to = omega arith; is = refl }))
          at n (inl (z, inl A)) (no d) = inl (other n d ∙ z, inl A)
          at n (inl (z, inr P)) (no d) =
              let f : P.level ≢ j = λ y. d (P.is ∙ ap (row_over S G h q) y) in
              inl (other n d ∙ z, inr (record { level = P.level; from = omega (arith, P.from, f); to = P.to; is = P.is }))
          at n (inr t) (no d) =
              inr (ap has_mark (other n d) ∙ t.0, record { level = t.1.level; from = omega arith; to = omega (arith, t.1.to); is = t.1.is })

    climbs : (i j : ℕ) (store : List ℕ) → j + i ≡ h → Stands S G h (Touched j) (q ∷ qs) base store
        → Prepared (q ∷ qs) base (mark_above S m (k ^ h) i (number_of S (k ^ h) q j) store)
    unfolding mark_above number_of
    climbs zero j store d Y = ends j store (λ n P. absurd (omega (arith, P.from, P.to))) Y
    climbs (suc i) j store d Y = go (is_marked S m (k ^ h) (row_over S G h q j) store) refl (climbs i (suc j) (mark_node S m (k ^ h) (row_over S G h q j) store) (omega arith))
      where
        go : (t : Bool) → is_marked S m (k ^ h) (row_over S G h q j) store ≡ t
            → (Stands S G h (Touched (suc j)) (q ∷ qs) base (mark_node S m (k ^ h) (row_over S G h q j) store)
            → Prepared (q ∷ qs) base (mark_above S m (k ^ h) i (number_of S (k ^ h) q (suc j)) (mark_node S m (k ^ h) (row_over S G h q j) store)))
            → Prepared (q ∷ qs) base (cond t store (mark_above S m (k ^ h) i (k ^ h + row_over S G h q j) (mark_node S m (k ^ h) (row_over S G h q j) store)))
        go true f ih = stops j store (omega arith) Y (sym (mark_seen (row_over S G h q j) store) ∙ f)
        go false f ih = ih (goes_on j store (omega arith) Y)

    prepared_more : Prepared (q ∷ qs) (put ground (q * l) leaf) (mark_above S m (k ^ h) h q (put old (q * l) leaf))
    unfolding number_of
    prepared_more = climbs h 0 (put old (q * l) leaf) (omega arith) begun

    still_clean : Clean (put ground (q * l) leaf)
    still_clean n c = ap has_mark (put_other S G h ground X.grounded q leaf (omega arith) (omega arith) (k ^ h + n) (λ z. absurd (omega arith))) ∙ clean n c

  -- all changes
  pub prepared : (cs : List Change) (store : List ℕ) → Fitting S h cs → length store ≡ size S h → Clean store
      → Prepared (places_of cs) (changed S cs store) (mark_all S m h cs store)
  unfolding mark_all mark_change
  prepared cs store P e clean =
      (each_change S G h (λ qs ground xs. Prepared qs ground xs × Clean ground) (λ qs rs ground xs f g X. (stands_same S G h Bears qs rs ground xs f g X.0, X.1))
      (mark_all S m h) (mark_change S m h) (λ xs. refl) (λ c cs xs. refl)
      (λ c qs ground xs b f X.
      (prepared_more c.place c.leaf qs ground xs b f X.0 X.1, still_clean c.place c.leaf qs ground xs b f X.0 X.1))
      cs store P (stands_none S G h Bears store e, clean)).0
