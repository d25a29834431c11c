-- Nodes above listed places rewritten from below. Rows a to b - 1 are in work: a node of theirs is done, or it still waits, as the nodes from b on do,
-- and its row is one of those still to be visited. What a node looks like that waits is left open.
use mathlib.Core.Path.{◌≡◌, sym, ap, ◌∙◌}
use mathlib.Core.Logic.{◌≢◌, ◌⊎◌, inl, inr}
use mathlib.Core.Bool.{true}
use mathlib.Core.List.{List, [], ◌∷◌}
use Prim.Native.Nat.{ℕ, ◌+◌, ◌*◌, ◌^◌, ◌≤◌, ◌<◌}
use native.Mathlib.Decide.{dec_lt, ℕ_discrete}
use native.Mathlib.Omega.{arith}
use lib.ListN.{length}
use Rattle.repeats.specs.Repeats.{member}
use Rattle.repeats.proofs.Members.{member_other}
use Rattle.merkle.specs.Lists.{put}
use Rattle.merkle.specs.Levels.{Shape, Regular, node, row}
use Rattle.merkle.specs.Numbering.{inner}
use Rattle.merkle.proofs.Members.{not_member}
use Rattle.merkle.proofs.Nodes.{total, length-compressed, put_other, put_row, put_same}
use Rattle.merkle.proofs.Settled.{Above, Compressed, Stands, Settled, stands_as, stands_written}

module _ (S : Shape) (G : Regular S) (h : ℕ) (Waiting : List ℕ → Type 0) where
  open S use {arity as k, node_size as l, compress}

  -- done, or waiting
  abbrev pub Turn : ℕ → ℕ → List ℕ → ℕ → List ℕ → Type 0
  Turn a b rest n store =
      (Compressed S G h n store × (n < b)) ⊎ (Waiting (node S (k ^ h + n) store) × (a ≤ n) × (n < b → member n rest ≡ true))

  abbrev pub Working : ℕ → ℕ → List ℕ → List ℕ → List ℕ → List ℕ → Type 0
  Working a b rest qs ground store = Stands S G h (Turn a b rest) qs ground store

  -- the rows before a are done, and all others wait
  abbrev pub Front : ℕ → List ℕ → List ℕ → List ℕ → Type 0
  Front a qs ground store = Working a a [] qs ground store

  module _ (qs ground : List ℕ) where
    -- where all wait, and where all are done
    pub front_first : (store : List ℕ) → Stands S G h (λ n xs. Waiting (node S (k ^ h + n) xs)) qs ground store → Front 0 qs ground store
    front_first store X =
        stands_as S G h (λ n xs. Waiting (node S (k ^ h + n) xs)) (Turn 0 0 []) qs ground store (λ n b A w. inr (w, omega arith, λ c. absurd (omega arith))) X

    pub front_last : (store : List ℕ) → Front (inner S h) qs ground store → Settled S G h qs ground store
    front_last store X = stands_as S G h (Turn (inner S h) (inner S h) []) (Compressed S G h) qs ground store (λ n b A t. at n b t) X
      where
        at : (n : ℕ) → n < inner S h → Turn (inner S h) (inner S h) [] n store → Compressed S G h n store
        at n b (inl d) = d.0
        at n b (inr w) = absurd (omega (arith, w.1))

    -- rows are taken into work with a list that has all of them that are above the places
    pub front_opens : (a b : ℕ) (rest store : List ℕ) → a ≤ b → ((n : ℕ) → a ≤ n → n < b → Above S G h qs n → member n rest ≡ true)
        → Front a qs ground store → Working a b rest qs ground store
    front_opens a b rest store le e X = stands_as S G h (Turn a a []) (Turn a b rest) qs ground store (λ n c A t. at n A t) X
      where
        at : (n : ℕ) → Above S G h qs n → Turn a a [] n store → Turn a b rest n store
        at n A (inl d) = inl (d.0, omega (arith, d.1))
        at n A (inr w) = inr (w.0, w.1, λ c. e n w.1 c A)

    pub front_closes : (a b : ℕ) (store : List ℕ) → Working a b [] qs ground store → Front b qs ground store
    front_closes a b store X = stands_as S G h (Turn a b []) (Turn b b []) qs ground store (λ n c A t. at n t (dec_lt n b)) X
      where
        at : (n : ℕ) → Turn a b [] n store → Dec (n < b) → Turn b b [] n store
        at n (inl d) c = inl d
        at n (inr w) (yes c) = absurd (not_member n (w.2 c))
        at n (inr w) (no c) = inr (w.0, omega arith, λ d. absurd (omega arith))

    -- a row is visited
    module _ (a b n : ℕ) (rest store : List ℕ) (X : Working a b (n ∷ rest) qs ground store) where
      pub skip_one : (Waiting (node S (k ^ h + n) store) → ⊥) → Working a b rest qs ground store
      skip_one f = stands_as S G h (Turn a b (n ∷ rest)) (Turn a b rest) qs ground store (λ i c A t. at i t (ℕ_discrete i n)) X
        where
          at : (i : ℕ) → Turn a b (n ∷ rest) i store → Dec (i ≡ n) → Turn a b rest i store
          at i (inl d) e = inl d
          at i (inr w) (yes e) = absurd (f (rw e at w.0))
          at i (inr w) (no e) = inr (w.0, w.1, λ c. sym (member_other i n rest e) ∙ w.2 c)

      -- the nodes of the rows before b have numbers below those of the nodes in work
      pub rewrite_one : ((i c : ℕ) → i < b → c < k → k * i + c < k ^ h + a) → a ≤ n → n < b → n < inner S h → Above S G h qs n
          → Working a b rest qs ground (put store ((k ^ h + n) * l) (compress (row S n store)))
      rewrite_one under low high c A =
          stands_written S G h (Turn a b (n ∷ rest)) (Turn a b rest) qs ground store n v c A short (λ i d B t. at i t (ℕ_discrete i n)) X
        where
          v : List ℕ
          v = compress (row S n store)

          lv : length v ≡ l
          lv = length-compressed S G h store X.whole n c

          short : length v ≤ l
          short = omega (arith, lv)

          g : k ^ h + n < total S G h
          g = omega arith

          same_row : (i : ℕ) → i < b → row S i (put store ((k ^ h + n) * l) v) ≡ row S i store
          same_row i d = put_row S G h store X.whole (k ^ h + n) v g short i (λ c e z. absurd (omega (arith, under i c d e)))

          same_node : (i : ℕ) → i ≢ n → node S (k ^ h + i) (put store ((k ^ h + n) * l) v) ≡ node S (k ^ h + i) store
          same_node i e = put_other S G h store X.whole (k ^ h + n) v g short (k ^ h + i) (λ z. e (omega arith))

          at : (i : ℕ) → Turn a b (n ∷ rest) i store → Dec (i ≡ n) → Turn a b rest i (put store ((k ^ h + n) * l) v)
          at i t (yes e) =
              rw e (inl (put_same S G h store X.whole (k ^ h + n) v g short lv ∙ ap compress (sym (same_row n high)), high))
          at i (inl d) (no e) = inl (same_node i e ∙ d.0 ∙ ap compress (sym (same_row i d.1)), d.1)
          at i (inr w) (no e) = inr (rw (same_node i e) w.0, w.1, λ c. sym (member_other i n rest e) ∙ w.2 c)
