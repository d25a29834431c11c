-- A push as code makes it that has no memory but the store. The leaves are written, and the nodes above them marked by a number that is no word;
-- then from below each marked node is rewritten, which takes its mark away. Nodes are numbered as in `Numbering`, w = k^h leaves first.
-- Nothing here has to be believed: `Marked` equates it with `push`.
use Rattle.std.specs.Prelude.{◌≡◌, Bool, true, cond, List, [], ◌∷◌, ℕ, zero, suc, ◌+◌, ◌*◌, ◌-◌, ◌/◌, ◌^◌, ◌≤◌, eqb, length, get_or, set}
use Rattle.modular.specs.Arithmetic.{all_words}
use Rattle.merkle.specs.Lists.{put}
use Rattle.merkle.specs.Levels.{Shape, size}
use Rattle.merkle.specs.Replacement.{Counted, Change, places_of, push}
use Rattle.merkle.specs.Numbering.{rows_before, inner, write_node}
use Rattle.merkle.specs.Statements.{Fitting, LeafWords}

-- m is the mark
module _ (S : Shape) (m : ℕ) where
  open S use {arity as k, node_size as l}

  -- node w + n bears the mark in its first word
  unfoldable pub is_marked : ℕ → ℕ → List ℕ → Bool
  is_marked w n store = eqb (get_or store ((w + n) * l) 0) m

  unfoldable pub mark_node : ℕ → ℕ → List ℕ → List ℕ
  mark_node w n store = set store ((w + n) * l) m

  -- the first i nodes above node f, up to one that is marked already
  unfoldable pub mark_above : ℕ → ℕ → ℕ → List ℕ → List ℕ
  mark_above w zero f store = store
  mark_above w (suc i) f store = cond (is_marked w (f / k) store) store (mark_above w i (w + f / k) (mark_node w (f / k) store))

  -- a leaf written, and the nodes above it marked
  unfoldable pub mark_change : ℕ → Change → List ℕ → List ℕ
  mark_change h c store = mark_above (k ^ h) h c.place (put store (c.place * l) c.leaf)

  unfoldable pub mark_all : ℕ → List Change → List ℕ → List ℕ
  mark_all h [] store = store
  mark_all h (c ∷ cs) store = mark_all h cs (mark_change h c store)

  -- node w + n rewritten where it is marked, by the one function that counts
  unfoldable pub rewrite_marked : ℕ → ℕ → Counted → Counted
  rewrite_marked w n s = cond (is_marked w n s.store) (write_node S w n s) s

  -- a level whose rows begin with row b, and whose nodes have u places under each: the nodes over the places, in the list's order
  unfoldable pub rewrite_over : ℕ → ℕ → ℕ → List ℕ → Counted → Counted
  rewrite_over w b u [] s = s
  rewrite_over w b u (q ∷ qs) s = rewrite_over w b u qs (rewrite_marked w (b + q / u) s)

  -- levels 1 to e so
  unfoldable pub rise : ℕ → List ℕ → ℕ → Counted → Counted
  rise h qs zero s = s
  rise h qs (suc j) s = rewrite_over (k ^ h) (rows_before S h j) (k ^ suc j) qs (rise h qs j s)

  -- n nodes from node w + b on, one by one
  unfoldable pub sweep : ℕ → ℕ → ℕ → Counted → Counted
  sweep w b zero s = s
  sweep w b (suc n) s = rewrite_marked w (b + n) (sweep w b n s)

  -- levels 1 to e by the places, and all above them node by node
  unfoldable pub push_marked : ℕ → ℕ → List Change → List ℕ → Counted
  push_marked h e cs store =
      sweep (k ^ h) (rows_before S h e) (inner S h - rows_before S h e)
      (rise h (places_of cs) e (record { store = mark_all h cs store; made = 0 }))

-- On every store of words, built or not, it is the push, whichever levels are made by the places.
abbrev pub Marked : ℕ → Shape → Type 0
Marked p S =
    (m h e : ℕ) (cs : List Change) (store : List ℕ) → p ≤ m → e ≤ h → Fitting S h cs → LeafWords p cs → length store ≡ size S h → all_words p store ≡ true
    → push_marked S m h e cs store ≡ push S h cs store
