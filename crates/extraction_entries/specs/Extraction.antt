-- What extraction replies and leaves, for any set, root, place, leaves, siblings and buffers (Rules 5.7, 8.8).
use Rattle.std.specs.Prelude.{Bool, not, ◌&&◌, List, [], ◌∷◌, ◌++◌, ℕ}
use Rattle.std.proofs.Math.Option.{Option, none, some}
use Rattle.refusals.specs.Table.{Refusal, refusal, not_words, Reply, reply, after}
use Rattle.refusals.specs.Answers.{Answer, reply_by}
use Rattle.parameters.specs.declared.ParameterSet.{ParameterSet}
use Rattle.parameters.specs.ParameterSet.{prime_of, set_refusals}
use Rattle.merkle.specs.Lists.{same}
use Rattle.merkle.specs.Openings.{accepts}
use Rattle.merkle.specs.Extraction.{Collision, extract}
use Rattle.trees.specs.SetTrees.{tree_of_set, opening_words}
use Rattle.tree_entries.specs.Trees.{has, no_place}
use Rattle.extraction_entries.specs.declared.Pair.{Pair as Handed}

-- The reply of an entry that answers a level (Rules 8.5).
abbrev pub extraction_reply : Answer ℕ → Reply
extraction_reply = reply_by (λ level. level ∷ [])

-- What extraction is handed beside the set and the buffers: a root, a place, and two leaves with siblings (Rules 5.7).
pub record Pair : Type 0 where
  pub root : List ℕ
  pub place : ℕ
  pub first_leaf : List ℕ
  pub first_siblings : List ℕ
  pub second_leaf : List ℕ
  pub second_siblings : List ℕ

abbrev pub pair : List ℕ → ℕ → List ℕ → List ℕ → List ℕ → List ℕ → Pair
pair top q a xs b ys = record { root = top; place = q; first_leaf = a; first_siblings = xs; second_leaf = b; second_siblings = ys }

-- that of the code's struct, and its numbers in one list
abbrev pub pair_of : Handed → Pair
pair_of two = pair two.root.now two.place two.first.leaf.now two.first.siblings.now two.second.leaf.now two.second.siblings.now

abbrev pub pair_words : Pair → List ℕ
pair_words two = two.root ++ (two.first_leaf ++ (two.first_siblings ++ (two.second_leaf ++ two.second_siblings)))

-- a leaf and its siblings have their lengths
abbrev pub opens : ParameterSet → List ℕ → List ℕ → Bool
opens s leaf siblings = has leaf s.node_size && has siblings (opening_words s)

module _ (s : ParameterSet) (two : Pair) where
  open two use {root as top, place as q, first_leaf as a, first_siblings as xs, second_leaf as b, second_siblings as ys}

  -- what refusal 10 asks the lengths of: the root, both leaves with their siblings, and the two buffers (Rules 8.8)
  unfoldable pub pair_fits : List ℕ → List ℕ → Bool
  pair_fits first second =
      has top s.node_size
      && (opens s a xs && (opens s b ys && (has first s.width && has second s.width)))

  -- refusals 1 to 12
  unfoldable pub pair_refusals : List ℕ → List ℕ → List Refusal
  pair_refusals first second =
      set_refusals s
      ++ (refusal 10 (not (pair_fits first second))
      ∷ no_place s q
      ∷ not_words (prime_of s) (pair_words two) ∷ [])

  -- where this is not so the refusal is 14 (Rules 8.1)
  unfoldable pub both_accepted : Bool
  both_accepted = accepts (tree_of_set s) s.height top q a xs && accepts (tree_of_set s) s.height top q b ys

  -- all refusals; 15 is of equal leaves, and comes before 14 (Rules 5.7, 8.1)
  unfoldable pub extract_refusals : List ℕ → List ℕ → List Refusal
  extract_refusals first second = pair_refusals first second ++ (refusal 15 (same a b) ∷ refusal 14 (not both_accepted) ∷ [])

  -- the lowest level at which the rows of the two leaves collide, with both rows (Rules 5.7)
  unfoldable pub collision : Option Collision
  collision = extract (tree_of_set s) s.height q a xs b ys

-- What of a collision is answered and written. Where nothing is refused there is one, as both leaves are accepted and differ (Rules 5.8).
unfoldable pub level_of : Option Collision → ℕ
level_of none = 0
level_of (some c) = c.level

unfoldable pub first_of : Option Collision → List ℕ → List ℕ
first_of none old = old
first_of (some c) old = c.first

unfoldable pub second_of : Option Collision → List ℕ → List ℕ
second_of none old = old
second_of (some c) old = c.second

unfoldable pub extract_reply : ParameterSet → Pair → List ℕ → List ℕ → Reply
extract_reply s two first second = reply (extract_refusals s two first second) (level_of (collision s two) ∷ [])

-- The row of the first leaf is in the first buffer, that of the second in the second (Rules 5.7).
unfoldable pub extracted_first : ParameterSet → Pair → List ℕ → List ℕ → List ℕ
extracted_first s two first second = after (extract_reply s two first second) first (first_of (collision s two) first)

unfoldable pub extracted_second : ParameterSet → Pair → List ℕ → List ℕ → List ℕ
extracted_second s two first second = after (extract_reply s two first second) second (second_of (collision s two) second)
