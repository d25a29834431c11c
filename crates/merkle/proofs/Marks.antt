-- The push by marks: it settles the store as the changes done singly do. Each rewriting takes a mark away, so it makes as many as there were marks,
-- and those are the nodes above the places.
use mathlib.Core.Path.{◌≡◌, refl, sym, ap, ◌∙◌}
use mathlib.Core.Logic.{inl, inr}
use mathlib.Core.Bool.{Bool, true, false, cond, true≢false}
use mathlib.Core.List.{List, [], ◌∷◌, map}
use Prim.Native.Nat.{ℕ, zero, suc, ◌+◌, ◌*◌, ◌-◌, ◌/◌, ◌^◌, ◌≤◌, ◌<◌}
use native.Mathlib.Nat.{add-zero, add-suc}
use native.Mathlib.Omega.{arith}
use lib.ListN.{length, get_or}
use borrow.Author.Tests.{ne_eqb}
use Rattle.modular.specs.Arithmetic.{all_words}
use Rattle.modular.proofs.Words.{words_at}
use Rattle.repeats.specs.Repeats.{member}
use Rattle.repeats.proofs.Members.{member_first}
use Rattle.merkle.specs.Lists.{put, sum}
use Rattle.merkle.specs.Levels.{Shape, Regular, KeepsWords, node, row, count, size}
use Rattle.merkle.specs.Openings.{over}
use Rattle.merkle.specs.Above.{above_at, nodes_above}
use Rattle.merkle.specs.Replacement.{Counted, places_of, singly, push, changed}
use Rattle.merkle.specs.Numbering.{rows_before, inner, write_node}
use Rattle.merkle.specs.Marks.{is_marked, mark_all, rewrite_marked, rewrite_over, rise, sweep, push_marked, Marked}
use Rattle.merkle.proofs.Lists.{sum_same, sum-zero, sum-add, sum-fewer, same_test, words_part_lem, words_joined}
use Rattle.merkle.proofs.Levels.{row_nodes}
use Rattle.merkle.proofs.Members.{member_behind, member_map, map-member}
use Rattle.merkle.proofs.Openings.{over_below}
use Rattle.merkle.proofs.Above.{above_each}
use Rattle.merkle.proofs.Replacement.{changed_words}
use Rattle.merkle.proofs.Numbering.{rows_none, rows_next, rows_rise, number_inner}
use Rattle.merkle.proofs.Nodes.{total, child_number, child_level, each_node, length-numbered, length-numbered_row, length-compressed, put_other, put_same}
use Rattle.merkle.proofs.Settled.{Above, is_above, level_above, above_level, settled_once}
use Rattle.merkle.proofs.Rising.{Turn, Working, Front, front_first, front_last, front_opens, front_closes, skip_one, rewrite_one}
use Rattle.merkle.proofs.Levelwise.{settled_singly}
use Rattle.merkle.proofs.Marking.{has_mark, Bears, mark_seen, Clean, marked_above, Prepared, prepared}

-- the mark is no word
module _ (S : Shape) (G : Regular S) (m p : ℕ) (high : p ≤ m) (W : KeepsWords p S) (h : ℕ) where
  open S use {arity as k, node_size as l, compress}

  unmarked : (node : List ℕ) → length node ≡ l → all_words p node ≡ true → has_mark S G m h node ≡ false
  unmarked node e w = ne_eqb (get_or node 0 0) m (λ z. absurd (omega (arith, words_at p node 0 w (omega (arith, G.nonempty)))))

  words_clean : (store : List ℕ) → length store ≡ size S h → all_words p store ≡ true → Clean S G m h store
  words_clean store e w n b =
      unmarked (node S (k ^ h + n) store) (length-numbered S G h store e (k ^ h + n) (omega arith)) (words_part_lem p ((k ^ h + n) * l) l store w)

  -- how many nodes bear it
  abbrev one : List ℕ → ℕ → ℕ
  one store n = cond (has_mark S G m h (node S (k ^ h + n) store)) 1 0

  unfoldable marks : List ℕ → ℕ
  marks store = sum (one store) (inner S h)

  abbrev Waits : List ℕ → Type 0
  Waits node = has_mark S G m h node ≡ true

  module _ (qs ground : List ℕ) (words : all_words p ground ≡ true) where
    module _ (a b : ℕ) (rest store : List ℕ) (X : Working S G h Waits a b rest qs ground store) where
      row_words : (n : ℕ) → n < inner S h → ((c : ℕ) → c < k → all_words p (node S (k * n + c) store) ≡ true) → all_words p (compress (row S n store)) ≡ true
      row_words n c e =
          W.words (row S n store) (length-numbered_row S G h store X.whole n c)
          (ap (all_words p) (sym (row_nodes S G n store)) ∙ words_joined p (λ c. node S (k * n + c) store) k e)

      -- what is done is words
      done_words : (f : ℕ) → f < total S G h → f < k ^ h + a → all_words p (node S f store) ≡ true
      done_words =
          each_node S G h (λ f. f < k ^ h + a → all_words p (node S f store) ≡ true)
          (λ f c d. ap (all_words p) (X.bottom f c) ∙ words_part_lem p (f * l) l ground words)
          (λ n c e d. upper n c d (λ i g. e i g (omega (arith, child_number S G h n i c g))) (is_above S G h qs n))
        where
          turned : (n : ℕ) → n < inner S h → n < a → ((c : ℕ) → c < k → all_words p (node S (k * n + c) store) ≡ true) → Turn S G h Waits a b rest n store
              → all_words p (node S (k ^ h + n) store) ≡ true
          turned n c d e (inl t) = ap (all_words p) t.0 ∙ row_words n c e
          turned n c d e (inr t) = absurd (omega (arith, t.1))

          upper : (n : ℕ) → n < inner S h → k ^ h + n < k ^ h + a → ((c : ℕ) → c < k → all_words p (node S (k * n + c) store) ≡ true) → Dec (Above S G h qs n)
              → all_words p (node S (k ^ h + n) store) ≡ true
          upper n c d e (yes A) = turned n c (omega arith) e (X.above n c A)
          upper n c d e (no A) = ap (all_words p) (X.kept n c A) ∙ words_part_lem p ((k ^ h + n) * l) l ground words

    -- rows in work, with the count: what is made and what is marked are c together
    record Stage (a b : ℕ) (rest : List ℕ) (c : ℕ) (s : Counted) : Type 0 where
      pub working : Working S G h Waits a b rest qs ground s.store
      pub together : s.made + marks s.store ≡ c

    opens : (a b : ℕ) (rest : List ℕ) (c : ℕ) (s : Counted) → a ≤ b → ((n : ℕ) → a ≤ n → n < b → Above S G h qs n → member n rest ≡ true)
        → Stage a a [] c s → Stage a b rest c s
    opens a b rest c s d e T = record { working = front_opens S G h Waits qs ground a b rest s.store d e T.working; together = T.together }

    closes : (a b c : ℕ) (s : Counted) → Stage a b [] c s → Stage b b [] c s
    closes a b c s T = record { working = front_closes S G h Waits qs ground a b s.store T.working; together = T.together }

    -- a row is visited
    visit : (a b n : ℕ) (rest : List ℕ) (c : ℕ) (s : Counted) → ((i c : ℕ) → i < b → c < k → k * i + c < k ^ h + a) → a ≤ n → n < b → n < inner S h
        → Stage a b (n ∷ rest) c s → Stage a b rest c (rewrite_marked S m (k ^ h) n s)
    unfolding rewrite_marked write_node marks
    visit a b n rest c s under low below inside T = go (is_marked S m (k ^ h) n s.store) refl
      where
        X : Working S G h Waits a b (n ∷ rest) qs ground s.store
        X = T.working

        v : List ℕ
        v = compress (row S n s.store)

        g : k ^ h + n < total S G h
        g = omega arith

        lv : length v ≡ l
        lv = length-compressed S G h s.store X.whole n inside

        short : length v ≤ l
        short = omega (arith, lv)

        v_words : all_words p v ≡ true
        v_words =
            row_words a b (n ∷ rest) s.store X n inside
            (λ i d. done_words a b (n ∷ rest) s.store X (k * n + i) (omega (arith, child_number S G h n i inside d)) (under n i below d))

        fewer : Bears S G m h n s.store → marks s.store ≡ suc (marks (put s.store ((k ^ h + n) * l) v))
        fewer B =
            let Y : List ℕ = put s.store ((k ^ h + n) * l) v in
            let new : has_mark S G m h (node S (k ^ h + n) Y) ≡ false =
            ap (has_mark S G m h) (put_same S G h s.store X.whole (k ^ h + n) v g short lv) ∙ unmarked v lv v_words in
            sum-fewer (one s.store) (one Y) n (inner S h) inside
            (λ i d e. ap (λ (z : List ℕ). cond (has_mark S G m h z) 1 0) (sym (put_other S G h s.store X.whole (k ^ h + n) v g short (k ^ h + i) (λ y. e (omega arith)))))
            (ap (λ (t : Bool). cond t 1 0) B ∙ sym (ap (λ (t : Bool). suc (cond t 1 0)) new))

        go : (t : Bool) → is_marked S m (k ^ h) n s.store ≡ t → Stage a b rest c (cond t (write_node S (k ^ h) n s) s)
        go true e =
            let B : Bears S G m h n s.store = sym (mark_seen S G m h n s.store) ∙ e in
            record {
              working =
                  rewrite_one S G h Waits qs ground a b n rest s.store X under low below inside
                  (marked_above S G m h (Turn S G h Waits a b (n ∷ rest)) qs ground s.store (words_clean ground X.grounded words) X n inside B);
              together = omega (arith, T.together, fewer B);
            }
        go false e =
            record {
              working = skip_one S G h Waits qs ground a b n rest s.store X (λ B. true≢false (sym B ∙ sym (mark_seen S G m h n s.store) ∙ e));
              together = T.together;
            }

    -- ---- a level by the places

    module _ (j : ℕ) (b : j < h) where
      abbrev row_at : ℕ → ℕ
      row_at q = rows_before S h j + q / k ^ suc j

      visits : (rs : List ℕ) (c : ℕ) (s : Counted) → ((q : ℕ) → member q rs ≡ true → q < k ^ h)
          → Stage (rows_before S h j) (rows_before S h (suc j)) (map row_at rs) c s
          → Stage (rows_before S h j) (rows_before S h (suc j)) [] c (rewrite_over S m (k ^ h) (rows_before S h j) (k ^ suc j) rs s)
      unfolding rewrite_over
      visits [] c s e T = T
      visits (q ∷ rs) c s e T =
          let d : q / k ^ suc j < count S h (suc j) = over_below S G h q (suc j) (e q (member_first q q rs refl)) b in
          visits rs c (rewrite_marked S m (k ^ h) (row_at q) s) (λ r f. e r (member_behind r q rs f))
          (visit (rows_before S h j) (rows_before S h (suc j)) (row_at q) (map row_at rs) c s (λ n c f g. child_level S G h j n c b f g) (omega arith)
          (omega (arith, rows_next S G h j)) (number_inner S G h j (q / k ^ suc j) b d) T)

      level_risen : (c : ℕ) (s : Counted) → Stage (rows_before S h j) (rows_before S h j) [] c s
          → Stage (rows_before S h (suc j)) (rows_before S h (suc j)) [] c (rewrite_over S m (k ^ h) (rows_before S h j) (k ^ suc j) qs s)
      level_risen c s T =
          let inside = T.working.inside in
          closes (rows_before S h j) (rows_before S h (suc j)) c (rewrite_over S m (k ^ h) (rows_before S h j) (k ^ suc j) qs s)
          (visits qs c s inside
          (opens (rows_before S h j) (rows_before S h (suc j)) (map row_at qs) c s (omega (arith, rows_next S G h j))
          (λ n d e A.
          let r = above_level S G h qs inside j n A d e in
          ap (λ (a : ℕ). member a (map row_at qs)) r.2 ∙ member_map row_at r.0 qs r.1)
          T))

    risen : (j c : ℕ) (s : Counted) → j ≤ h → Stage 0 0 [] c s → Stage (rows_before S h j) (rows_before S h j) [] c (rise S m h qs j s)
    unfolding rise
    risen zero c s b T = rw (rows_none S G h) T
    risen (suc j) c s b T = level_risen j b c (rise S m h qs j s) (risen j c s (omega arith) T)

    -- ---- node by node

    swept : (a n c : ℕ) (s : Counted) → a + n ≤ inner S h → Stage a a [] c s → Stage (a + n) (a + n) [] c (sweep S m (k ^ h) a n s)
    unfolding sweep
    swept a zero c s b T = rw (add-zero a) T
    swept a (suc n) c s b T =
        let i : ℕ = a + n in
        rw (add-suc a n)
        (closes i (suc i) c (rewrite_marked S m (k ^ h) i (sweep S m (k ^ h) a n s))
        (visit i (suc i) i [] c (sweep S m (k ^ h) a n s) (λ x y d e. omega (arith, child_number S G h x y (omega arith) e)) (omega arith) (omega arith) (omega arith)
        (opens i (suc i) (i ∷ []) c (sweep S m (k ^ h) a n s) (omega arith)
        (λ x d e A. let y : x ≡ i = omega arith in member_first x i [] y)
        (swept a n c s (omega arith) T))))

    -- ---- the marks at first, and at last

    marks_last : (store : List ℕ) → Front S G h Waits (inner S h) qs ground store → marks store ≡ 0
    unfolding marks
    marks_last store X =
        sum-zero (one store) (inner S h)
        (λ n b. ap (λ (t : Bool). cond t 1 0)
        (unmarked (node S (k ^ h + n) store) (length-numbered S G h store X.whole (k ^ h + n) (omega arith))
        (done_words (inner S h) (inner S h) [] store X (k ^ h + n) (omega arith) (omega arith))))

    module _ (store : List ℕ) (X : Prepared S G m h qs ground store) where
      marked_row : (j i : ℕ) → j < h → i < count S h (suc j)
          → has_mark S G m h (node S (k ^ h + (rows_before S h j + i)) store) ≡ member i (map (λ q. over S q (suc j)) qs)
      marked_row j i b c =
          same_test (has_mark S G m h (node S (k ^ h + n) store)) (member i (map (λ q. over S q (suc j)) qs)) there back
        where
          n : ℕ
          n = rows_before S h j + i

          n_inner : n < inner S h
          n_inner = number_inner S G h j i b c

          there : Bears S G m h n store → member i (map (λ q. over S q (suc j)) qs) ≡ true
          there B =
              let A = marked_above S G m h (Bears S G m h) qs ground store (words_clean ground X.grounded words) X n n_inner B in
              let r = above_level S G h qs X.inside j n A (omega arith) (omega (arith, rows_next S G h j)) in
              let e : i ≡ over S r.0 (suc j) = omega (arith, r.2) in
              ap (λ (a : ℕ). member a (map (λ q. over S q (suc j)) qs)) e ∙ member_map (λ q. over S q (suc j)) r.0 qs r.1

          back : member i (map (λ q. over S q (suc j)) qs) ≡ true → Bears S G m h n store
          back e =
              let r = map-member (λ q. over S q (suc j)) i qs e in
              X.above n n_inner (rw r.2 (level_above S G h qs X.inside j r.0 b r.1))

      marks_upto : (j : ℕ) → j ≤ h → sum (one store) (rows_before S h j) ≡ sum (λ i. length (above_at k qs (suc i))) j
      unfolding sum
      marks_upto zero b = ap (sum (one store)) (rows_none S G h)
      marks_upto (suc j) b =
          let here : sum (λ i. one store (rows_before S h j + i)) (count S h (suc j)) ≡ length (above_at k qs (suc j)) =
          sum_same (λ i. one store (rows_before S h j + i)) (λ i. cond (member i (map (λ q. over S q (suc j)) qs)) 1 0) (count S h (suc j))
          (λ i c. ap (λ (t : Bool). cond t 1 0) (marked_row j i b c))
          ∙ sym (above_each S G h (suc j) qs b X.inside) in
          omega (arith, ap (sum (one store)) (rows_next S G h j), sum-add (one store) (rows_before S h j) (count S h (suc j)), marks_upto j (omega arith))

      marks_first : marks store ≡ nodes_above k h qs
      unfolding marks nodes_above inner
      marks_first = marks_upto h (omega arith)

    -- ---- all of it

    all_marked : (e : ℕ) (s : Counted) → e ≤ h → s.made ≡ 0 → Prepared S G m h qs ground s.store
        → Stage (inner S h) (inner S h) [] (nodes_above k h qs) (sweep S m (k ^ h) (rows_before S h e) (inner S h - rows_before S h e) (rise S m h qs e s))
    unfolding inner
    all_marked e s b z X =
        let d : rows_before S h e + (rows_before S h h - rows_before S h e) ≡ rows_before S h h = omega (arith, rows_rise S G h e h b) in
        rw d at
        (swept (rows_before S h e) (rows_before S h h - rows_before S h e) (nodes_above k h qs) (rise S m h qs e s) (omega arith)
        (risen e (nodes_above k h qs) s b
        (record { working = front_first S G h Waits qs ground s.store X; together = omega (arith, marks_first s.store X) })))

pub marked : (p : ℕ) (S : Shape) → Regular S → KeepsWords p S → Marked p S
unfolding push_marked push
marked p S G W m h e cs store high b P L whole words =
    let qs : List ℕ = places_of cs in
    let ground : List ℕ = changed S cs store in
    let s : Counted = record { store = mark_all S m h cs store; made = 0 } in
    let t : Counted = sweep S m (S.arity ^ h) (rows_before S h e) (inner S h - rows_before S h e) (rise S m h qs e s) in
    let w : all_words p ground ≡ true = changed_words S G p cs store L words in
    let T = all_marked S G m p high W h qs ground w e s b refl (prepared S G m h cs store P whole (words_clean S G m p high W h store whole words)) in
    let x : t.store ≡ singly S h cs store =
    settled_once S G h qs ground t.store (singly S h cs store)
    (front_last S G h (Waits S G m p high W h) qs ground t.store T.working) (settled_singly S G h cs store P whole) in
    let y : t.made ≡ nodes_above S.arity h qs =
    omega (arith, T.together, marks_last S G m p high W h qs ground w t.store T.working) in
    λ i. record { store = x i; made = y i }
