-- What changes leave of any store, said without the order in which nodes are written: the leaves, the nodes that are kept, and the nodes above
-- the listed places, each the compression of its row. There is one such store alone.
use mathlib.Core.Path.{◌≡◌, refl, sym, ap, ◌∙◌}
use mathlib.Core.Logic.{◌≢◌, ◌⊎◌, inl, inr}
use mathlib.Core.Bool.{true, true≢false}
use mathlib.Core.List.{List, [], ◌∷◌, map}
use mathlib.Core.Option.{Option, none, some}
use Prim.Native.Nat.{ℕ, suc, ◌+◌, ◌*◌, ◌-◌, ◌/◌, ◌^◌, ◌≤◌, ◌<◌}
use native.Mathlib.Decide.{dec_lt, ℕ_discrete}
use native.Mathlib.Omega.{arith}
use lib.ListN.{length}
use Rattle.repeats.specs.Repeats.{member}
use Rattle.repeats.proofs.Members.{member_first}
use Rattle.merkle.specs.Lists.{put, lowest}
use Rattle.merkle.specs.Levels.{Shape, Regular, node, row, size}
use Rattle.merkle.specs.Openings.{over}
use Rattle.merkle.specs.Replacement.{Change, places_of, changed}
use Rattle.merkle.specs.Numbering.{rows_before, inner, number_of}
use Rattle.merkle.specs.Statements.{Fitting}
use Rattle.merkle.proofs.Lists.{Searched, searched}
use Rattle.merkle.proofs.Members.{not_member, member_behind, member_cases, member_single, member_map, map-member}
use Rattle.merkle.proofs.Openings.{over_below}
use Rattle.merkle.proofs.Numbering.{rows_next, rows_rise, number_row}
use Rattle.merkle.proofs.Nodes.{total, child_row, child_number, row_same, each_node, store_same, put_length, put_other, put_own}

module _ (S : Shape) (G : Regular S) (h : ℕ) where
  open S use {arity as k, node_size as l, compress}

  -- ---- the nodes above listed places

  -- all listed places are leaves
  abbrev pub Inside : List ℕ → Type 0
  Inside qs = (q : ℕ) → member q qs ≡ true → q < k ^ h

  pub places_inside : (cs : List Change) → Fitting S h cs → Inside (places_of cs)
  unfolding places_of
  places_inside [] P q e = absurd (not_member q e)
  places_inside (c ∷ cs) P q e = go (member_cases q c.place (places_of cs) e) (places_inside cs P.2 q)
    where
      go : (q ≡ c.place) ⊎ (member q (places_of cs) ≡ true) → (member q (places_of cs) ≡ true → q < k ^ h) → q < k ^ h
      go (inl a) ih = omega (arith, P.0)
      go (inr a) ih = ih a

  -- the row of the node of level j over a place: its compression is the node above
  abbrev pub row_over : ℕ → ℕ → ℕ
  row_over q j = number_of S (k ^ h) q j / k

  pub row_leaf : (q : ℕ) → row_over q 0 ≡ q / k
  unfolding number_of
  row_leaf q = refl

  pub row_next : (q j : ℕ) → row_over q (suc j) ≡ (k ^ h + row_over q j) / k
  unfolding number_of
  row_next q j = refl

  pub row_rise : (q i j : ℕ) → q < k ^ h → i < j → j ≤ h → row_over q i < row_over q j
  row_rise q i j inside b c =
      omega (arith, number_row S G h q inside i (omega arith), number_row S G h q inside j c, rows_next S G h i, over_below S G h q (suc i) inside (omega arith), rows_rise S G h (suc i) j b)

  -- behind the root there is no row
  pub row_end : (q : ℕ) → q < k ^ h → inner S h ≤ row_over q h
  unfolding inner
  row_end q inside = omega (arith, number_row S G h q inside h (omega arith))

  -- node w + n is one of them
  pub record Above (qs : List ℕ) (n : ℕ) : Type 0 where
    pub place : ℕ
    pub level : ℕ
    pub listed : member place qs ≡ true
    pub low : level < h
    pub is : n ≡ row_over place level

  pub is_above : (qs : List ℕ) (n : ℕ) → Dec (Above qs n)
  is_above qs n = go (lowest (λ j. member n (map (λ q. row_over q j) qs)) h) (searched (λ j. member n (map (λ q. row_over q j) qs)) h)
    where
      go : (o : Option ℕ) → Searched (λ j. member n (map (λ q. row_over q j) qs)) h o → Dec (Above qs n)
      go none e =
          no (λ A. true≢false
          (sym (ap (λ (a : ℕ). member a (map (λ q. row_over q A.level) qs)) A.is ∙ member_map (λ q. row_over q A.level) A.place qs A.listed)
          ∙ e A.level A.low))
      go (some j) L =
          let r = map-member (λ q. row_over q j) n qs L.accepted in
          yes (record { place = r.0; level = j; listed = r.1; low = L.within; is = r.2 })

  pub above_own : (q : ℕ) (qs : List ℕ) (j : ℕ) → j < h → Above (q ∷ qs) (row_over q j)
  above_own q qs j b = record { place = q; level = j; listed = member_first q q qs refl; low = b; is = refl }

  -- the places count as a set
  pub above_some : (qs rs : List ℕ) (n : ℕ) → ((q : ℕ) → member q qs ≡ true → member q rs ≡ true) → Above qs n → Above rs n
  above_some qs rs n e A = record { place = A.place; level = A.level; listed = e A.place A.listed; low = A.low; is = A.is }

  pub above_more : (q : ℕ) (qs : List ℕ) (n : ℕ) → Above qs n → Above (q ∷ qs) n
  above_more q qs n A = above_some qs (q ∷ qs) n (λ r e. member_behind r q qs e) A

  pub above_cases : (q : ℕ) (qs : List ℕ) (n : ℕ) → Above (q ∷ qs) n → ((j : ℕ) × (j < h) × (n ≡ row_over q j)) ⊎ Above qs n
  above_cases q qs n A = go (member_cases A.place q qs A.listed)
    where
      go : (A.place ≡ q) ⊎ (member A.place qs ≡ true) → ((j : ℕ) × (j < h) × (n ≡ row_over q j)) ⊎ Above qs n
      go (inl e) = inl (A.level, A.low, A.is ∙ ap (λ (a : ℕ). row_over a A.level) e)
      go (inr e) = inr (record { place = A.place; level = A.level; listed = e; low = A.low; is = A.is })

  -- so is the node above one of them
  pub above_up : (qs : List ℕ) → Inside qs → (n : ℕ) → Above qs n → (k ^ h + n) / k < inner S h → Above qs ((k ^ h + n) / k)
  above_up qs inside n A b = go (dec_lt (suc A.level) h)
    where
      up : (k ^ h + n) / k ≡ row_over A.place (suc A.level)
      up = ap (λ (a : ℕ). (k ^ h + a) / k) A.is ∙ sym (row_next A.place A.level)

      go : Dec (suc A.level < h) → Above qs ((k ^ h + n) / k)
      go (yes c) = record { place = A.place; level = suc A.level; listed = A.listed; low = c; is = up }
      go (no c) =
          let e : suc A.level ≡ h = omega (arith, A.low) in
          let f : (k ^ h + n) / k ≡ row_over A.place h = up ∙ ap (row_over A.place) e in
          absurd (omega (arith, row_end A.place (inside A.place A.listed)))

  -- and on each level they are those over the places
  pub above_level : (qs : List ℕ) → Inside qs → (j n : ℕ) → Above qs n → rows_before S h j ≤ n → n < rows_before S h (suc j)
      → (q : ℕ) × (member q qs ≡ true) × (n ≡ rows_before S h j + over S q (suc j))
  above_level qs inside j n A b c = go (dec_lt i j) (dec_lt j i)
    where
      i : ℕ
      i = A.level

      q : ℕ
      q = A.place

      is : n ≡ rows_before S h i + over S q (suc i)
      is = A.is ∙ number_row S G h q (inside q A.listed) i (omega (arith, A.low))

      before_next : n < rows_before S h (suc i)
      before_next = omega (arith, is, rows_next S G h i, over_below S G h q (suc i) (inside q A.listed) A.low)

      go : Dec (i < j) → Dec (j < i) → (q : ℕ) × (member q qs ≡ true) × (n ≡ rows_before S h j + over S q (suc j))
      go (yes x) y = absurd (omega (arith, before_next, rows_rise S G h (suc i) j x))
      go (no x) (yes y) = absurd (omega (arith, is, rows_rise S G h (suc j) i y))
      go (no x) (no y) =
          let e : i ≡ j = omega arith in
          (q, A.listed, is ∙ ap (λ (a : ℕ). rows_before S h a + over S q (suc a)) e)

  pub level_above : (qs : List ℕ) → Inside qs → (j q : ℕ) → j < h → member q qs ≡ true → Above qs (rows_before S h j + over S q (suc j))
  level_above qs inside j q b e = record { place = q; level = j; listed = e; low = b; is = sym (number_row S G h q (inside q e) j (omega arith)) }

  -- ---- a store by its nodes

  -- The leaves and the nodes that are not above the places are those of `ground`; of the others F holds.
  pub record Stands (F : ℕ → List ℕ → Type 0) (qs ground store : List ℕ) : Type 0 where
    pub inside : Inside qs
    pub grounded : length ground ≡ size S h
    pub whole : length store ≡ size S h
    pub bottom : (f : ℕ) → f < k ^ h → node S f store ≡ node S f ground
    pub kept : (n : ℕ) → n < inner S h → (Above qs n → ⊥) → node S (k ^ h + n) store ≡ node S (k ^ h + n) ground
    pub above : (n : ℕ) → n < inner S h → Above qs n → F n store

  module _ (F : ℕ → List ℕ → Type 0) where
    pub stands_as : (E : ℕ → List ℕ → Type 0) (qs ground store : List ℕ) → ((n : ℕ) → n < inner S h → Above qs n → F n store → E n store)
        → Stands F qs ground store → Stands E qs ground store
    stands_as E qs ground store e X =
        record {
          inside = X.inside;
          grounded = X.grounded;
          whole = X.whole;
          bottom = X.bottom;
          kept = X.kept;
          above = λ n b A. e n b A (X.above n b A);
        }

    pub stands_same : (qs rs ground store : List ℕ) → ((q : ℕ) → member q qs ≡ true → member q rs ≡ true) → ((q : ℕ) → member q rs ≡ true → member q qs ≡ true)
        → Stands F qs ground store → Stands F rs ground store
    stands_same qs rs ground store e f X =
        record {
          inside = λ q b. X.inside q (f q b);
          grounded = X.grounded;
          whole = X.whole;
          bottom = X.bottom;
          kept = λ n b A. X.kept n b (λ B. A (above_some qs rs n e B));
          above = λ n b A. X.above n b (above_some rs qs n f A);
        }

    -- a node above the places written, or its first words
    pub stands_written : (E : ℕ → List ℕ → Type 0) (qs ground store : List ℕ) (n : ℕ) (v : List ℕ) → n < inner S h → Above qs n → length v ≤ l
        → ((i : ℕ) → i < inner S h → Above qs i → F i store → E i (put store ((k ^ h + n) * l) v))
        → Stands F qs ground store → Stands E qs ground (put store ((k ^ h + n) * l) v)
    stands_written E qs ground store n v b A short e X =
        let g : k ^ h + n < total S G h = omega arith in
        let other = put_other S G h store X.whole (k ^ h + n) v g short in
        record {
          inside = X.inside;
          grounded = X.grounded;
          whole = put_length S G h store X.whole (k ^ h + n) v g short;
          bottom = λ f c. other f (λ z. absurd (omega arith)) ∙ X.bottom f c;
          kept = λ i c B. other (k ^ h + i) (λ z. let y : i ≡ n = omega arith in B (rw y A)) ∙ X.kept i c B;
          above = λ i c B. e i c B (X.above i c B);
        }

    -- a leaf written at one more place
    pub stands_leaf : (E : ℕ → List ℕ → Type 0) (q : ℕ) (leaf qs ground store : List ℕ) → q < k ^ h → length leaf ≤ l
        → ((n : ℕ) → n < inner S h → Above (q ∷ qs) n → E n (put store (q * l) leaf))
        → Stands F qs ground store → Stands E (q ∷ qs) (put ground (q * l) leaf) (put store (q * l) leaf)
    stands_leaf E q leaf qs ground store b short u X =
        record {
          inside = λ r a. place r (member_cases r q qs a);
          grounded = put_length S G h ground X.grounded q leaf low short;
          whole = put_length S G h store X.whole q leaf low short;
          bottom = λ f c. leaves f c (ℕ_discrete f q);
          kept = λ n c A. old (k ^ h + n) (λ z. absurd (omega arith)) ∙ X.kept n c (λ B. A (above_more q qs n B)) ∙ sym (base (k ^ h + n) (λ z. absurd (omega arith)));
          above = u;
        }
      where
        low : q < total S G h
        low = omega arith

        place : (r : ℕ) → (r ≡ q) ⊎ (member r qs ≡ true) → r < k ^ h
        place r (inl z) = omega arith
        place r (inr z) = X.inside r z

        old : (f : ℕ) → f ≢ q → node S f (put store (q * l) leaf) ≡ node S f store
        old f d = put_other S G h store X.whole q leaf low short f d

        base : (f : ℕ) → f ≢ q → node S f (put ground (q * l) leaf) ≡ node S f ground
        base f d = put_other S G h ground X.grounded q leaf low short f d

        leaves : (f : ℕ) → f < k ^ h → Dec (f ≡ q) → node S f (put store (q * l) leaf) ≡ node S f (put ground (q * l) leaf)
        leaves f c (yes z) =
            rw z
            (put_own S G h store X.whole q leaf low short ∙ ap (λ (u : List ℕ). put u 0 leaf) (X.bottom q b) ∙ sym (put_own S G h ground X.grounded q leaf low short))
        leaves f c (no z) = old f z ∙ X.bottom f c ∙ sym (base f z)

  -- where nothing is written yet, and where no place is listed
  pub stands_first : (F : ℕ → List ℕ → Type 0) (qs store : List ℕ) → Inside qs → length store ≡ size S h → ((n : ℕ) → n < inner S h → Above qs n → F n store)
      → Stands F qs store store
  stands_first F qs store i e u = record { inside = i; grounded = e; whole = e; bottom = λ f b. refl; kept = λ n b A. refl; above = u }

  pub stands_none : (F : ℕ → List ℕ → Type 0) (store : List ℕ) → length store ≡ size S h → Stands F [] store store
  stands_none F store e = stands_first F [] store (λ q b. absurd (not_member q b)) e (λ n b A. absurd (not_member A.place A.listed))

  -- ---- one change after another

  -- of what holds of no place, and with each change of one place more
  module _ (Q : List ℕ → List ℕ → List ℕ → Type 0)
      (same : (qs rs ground store : List ℕ) → ((q : ℕ) → member q qs ≡ true → member q rs ≡ true) → ((q : ℕ) → member q rs ≡ true → member q qs ≡ true)
      → Q qs ground store → Q rs ground store)
      (all : List Change → List ℕ → List ℕ) (one : Change → List ℕ → List ℕ)
      (none_left : (store : List ℕ) → all [] store ≡ store) (one_done : (c : Change) (cs : List Change) (store : List ℕ) → all (c ∷ cs) store ≡ all cs (one c store))
      (step : (c : Change) (qs ground store : List ℕ) → c.place < k ^ h → length c.leaf ≤ l → Q qs ground store
      → Q (c.place ∷ qs) (put ground (c.place * l) c.leaf) (one c store)) where
    from : (cs : List Change) (qs rs ground store : List ℕ) → Fitting S h cs
        → ((q : ℕ) → member q rs ≡ true → (member q (places_of cs) ≡ true) ⊎ (member q qs ≡ true))
        → ((q : ℕ) → member q (places_of cs) ≡ true → member q rs ≡ true) → ((q : ℕ) → member q qs ≡ true → member q rs ≡ true)
        → Q qs ground store → Q rs (changed S cs ground) (all cs store)
    unfolding places_of changed
    from [] qs rs ground store P e f g X = rw (none_left store) (same qs rs ground store g (λ q a. at q (e q a)) X)
      where
        at : (q : ℕ) → (member q [] ≡ true) ⊎ (member q qs ≡ true) → member q qs ≡ true
        at q (inl a) = absurd (not_member q a)
        at q (inr a) = a
    from (c ∷ cs) qs rs ground store P e f g X =
        rw (one_done c cs store)
        (from cs (c.place ∷ qs) rs (put ground (c.place * l) c.leaf) (one c store) P.2 (λ q a. moved q (e q a))
        (λ q a. f q (member_behind q c.place (places_of cs) a)) (λ q a. listed q (member_cases q c.place qs a)) (step c qs ground store P.0 P.1 X))
      where
        first : (q : ℕ) → (q ≡ c.place) ⊎ (member q (places_of cs) ≡ true) → (member q (places_of cs) ≡ true) ⊎ (member q (c.place ∷ qs) ≡ true)
        first q (inl a) = inr (member_first q c.place qs a)
        first q (inr a) = inl a

        moved : (q : ℕ) → (member q (c.place ∷ places_of cs) ≡ true) ⊎ (member q qs ≡ true) → (member q (places_of cs) ≡ true) ⊎ (member q (c.place ∷ qs) ≡ true)
        moved q (inl a) = first q (member_cases q c.place (places_of cs) a)
        moved q (inr a) = inr (member_behind q c.place qs a)

        listed : (q : ℕ) → (q ≡ c.place) ⊎ (member q qs ≡ true) → member q rs ≡ true
        listed q (inl a) = f q (member_first q c.place (places_of cs) a)
        listed q (inr a) = g q a

    pub each_change : (cs : List Change) (store : List ℕ) → Fitting S h cs → Q [] store store → Q (places_of cs) (changed S cs store) (all cs store)
    each_change cs store P X = from cs [] (places_of cs) store store P (λ q a. inl a) (λ q a. a) (λ q a. absurd (not_member q a)) X

  -- ---- settled

  -- node w + n compresses its row
  abbrev pub Compressed : ℕ → List ℕ → Type 0
  Compressed n store = node S (k ^ h + n) store ≡ compress (row S n store)

  abbrev pub Settled : List ℕ → List ℕ → List ℕ → Type 0
  Settled qs ground store = Stands Compressed qs ground store

  pub settled_once : (qs ground xs ys : List ℕ) → Settled qs ground xs → Settled qs ground ys → xs ≡ ys
  settled_once qs ground xs ys X Y =
      store_same S G h xs ys X.whole Y.whole
      (each_node S G h (λ f. node S f xs ≡ node S f ys) (λ f b. X.bottom f b ∙ sym (Y.bottom f b)) (λ n b e. upper n b e (is_above qs n)))
    where
      upper : (n : ℕ) → n < inner S h → ((c : ℕ) → c < k → node S (k * n + c) xs ≡ node S (k * n + c) ys) → Dec (Above qs n)
          → node S (k ^ h + n) xs ≡ node S (k ^ h + n) ys
      upper n b e (yes A) = X.above n b A ∙ ap compress (row_same S G n xs ys e) ∙ sym (Y.above n b A)
      upper n b e (no A) = X.kept n b A ∙ sym (Y.kept n b A)

  -- a store settled for a place more, after one that was settled for the others
  module _ (q : ℕ) (leaf qs ground old new : List ℕ) (b : q < k ^ h) (e : length leaf ≤ l) (X : Settled qs ground old) (Y : Settled (q ∷ []) (put old (q * l) leaf) new) where
    Z : Stands (λ n store. Unit {0}) (q ∷ qs) (put ground (q * l) leaf) (put old (q * l) leaf)
    Z = stands_leaf Compressed (λ n store. Unit {0}) q leaf qs ground old b e (λ n c A. tt) X

    leaf_kept : (f : ℕ) → f ≢ q → node S f (put old (q * l) leaf) ≡ node S f old
    leaf_kept f d = put_other S G h old X.whole q leaf (omega arith) (omega arith) f d

    upper_kept : (n : ℕ) → n < inner S h → (Above (q ∷ []) n → ⊥) → node S (k ^ h + n) new ≡ node S (k ^ h + n) old
    upper_kept n c B = Y.kept n c B ∙ leaf_kept (k ^ h + n) (λ z. absurd (omega arith))

    -- a row that is not of the place has no node that is
    row_kept : (n : ℕ) → n < inner S h → 0 < h → (Above (q ∷ []) n → ⊥) → row S n new ≡ row S n old
    row_kept n c z B = row_same S G n new old (λ i d. at i d (dec_lt (k * n + i) (k ^ h)))
      where
        at : (i : ℕ) → i < k → Dec (k * n + i < k ^ h) → node S (k * n + i) new ≡ node S (k * n + i) old
        at i d (yes f) =
            Y.bottom (k * n + i) f
            ∙ leaf_kept (k * n + i) (λ g. B (rw (sym (child_row S G n i d) ∙ ap (λ (a : ℕ). a / k) g ∙ sym (row_leaf q)) (above_own q [] 0 z)))
        at i d (no f) = rw u (upper_kept m m_inner (λ A. B (rw v at (above_up (q ∷ []) Y.inside m A (rw v c)))))
          where
            m : ℕ
            m = k * n + i - k ^ h

            u : k * n + i ≡ k ^ h + m
            u = omega arith

            m_inner : m < inner S h
            m_inner = omega (arith, child_number S G h n i c d)

            v : (k ^ h + m) / k ≡ n
            v = ap (λ (a : ℕ). a / k) (sym u) ∙ child_row S G n i d

    pub settled_more : Settled (q ∷ qs) (put ground (q * l) leaf) new
    settled_more =
        record {
          inside = Z.inside;
          grounded = Z.grounded;
          whole = Y.whole;
          bottom = λ f c. Y.bottom f c ∙ Z.bottom f c;
          kept = λ n c A. Y.kept n c (λ B. A (above_some (q ∷ []) (q ∷ qs) n (λ r f. member_first r q qs (member_single r q f)) B)) ∙ Z.kept n c A;
          above = λ n c A. at n c (is_above (q ∷ []) n) (above_cases q qs n A);
        }
      where
        at : (n : ℕ) → n < inner S h → Dec (Above (q ∷ []) n) → ((j : ℕ) × (j < h) × (n ≡ row_over q j)) ⊎ Above qs n → Compressed n new
        at n c (yes B) t = Y.above n c B
        at n c (no B) (inl r) = absurd (B (rw r.2 (above_own q [] r.0 r.1)))
        at n c (no B) (inr A) = upper_kept n c B ∙ X.above n c A ∙ ap compress (sym (row_kept n c (omega (arith, A.low)) B))
