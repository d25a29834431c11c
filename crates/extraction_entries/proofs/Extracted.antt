-- Where extraction refuses nothing there is a collision: its level, and both rows.
use mathlib.Core.Path.{◌≡◌, refl, sym, ap, ◌∙◌}
use mathlib.Core.Logic.{◌≢◌}
use mathlib.Core.Bool.{true, false, not}
use mathlib.Core.List.{List, [], ◌∷◌}
use mathlib.Core.Option.{Option, none, some}
use Prim.Native.Nat.{ℕ, ◌<◌}
use borrow.Author.Tests.{not-false}
use Rattle.modular.proofs.Words.{left_true, right_true}
use Rattle.std.specs.Result.{IsErrAnd}
use Rattle.refusals.specs.Table.{refusal, first_refusal, done}
use Rattle.refusals.specs.Answers.{Answer, number_of}
use Rattle.refusals.specs.declared.Refusal.{Refusal}
use Rattle.refusals.proofs.Table.{first_none, refusal_none, reply_done, written_after}
use Rattle.refusals.proofs.Answers.{refusal_returned}
use Rattle.parameters.specs.declared.ParameterSet.{ParameterSet}
use Rattle.merkle.specs.Lists.{same, lowest}
use Rattle.merkle.specs.Openings.{path_row}
use Rattle.merkle.specs.Extraction.{Collision, collide_at, with_rows, extract}
use Rattle.merkle.specs.Statements.{Extracts}
use Rattle.merkle.proofs.Lists.{same_false}
use Rattle.paths.specs.Levels.{level_or}
use Rattle.trees.specs.SetTrees.{tree_of_set}
use Rattle.trees.proofs.SetTrees.{laws}
use Rattle.extraction_entries.specs.Extraction.{Pair, pair_refusals, both_accepted, extract_refusals, collision, level_of, first_of, second_of, extract_reply, extracted_first, extracted_second, extraction_reply}
use Rattle.extraction_entries.proofs.AcceptedPairs.{Paired, pair_numbered, extract_numbered, pair_passed}
use Rattle.extraction_entries.proofs.Verdicts.{one, other}

-- a level of a collision, or another where there is none
level_or_lem : ℕ → Option Collision → ℕ
level_or_lem d none = d
level_or_lem d (some c) = c.level

module _ (s : ParameterSet) (two : Pair) (first second : List ℕ) (z : first_refusal (extract_refusals s two first second) ≡ 0) where
  open two use {root as top, place as q, first_leaf as a, first_siblings as xs, second_leaf as b, second_siblings as ys}

  pairs : (first_refusal (pair_refusals s two first second) ≡ 0) × (first_refusal (refusal 15 (same a b) ∷ refusal 14 (not (both_accepted s two)) ∷ []) ≡ 0)
  unfolding extract_refusals
  pairs = first_none (pair_refusals s two first second) _ (pair_numbered s two first second) z

  pub paired : Paired s two first second
  paired = pair_passed s two first second pairs.0

  leaves : (same a b ≡ false) × (first_refusal (refusal 14 (not (both_accepted s two)) ∷ []) ≡ 0)
  leaves = refusal_none 14 (same a b) _ pairs.1

  pub differ : a ≢ b
  differ = same_false a b leaves.0

  pub both : both_accepted s two ≡ true
  both = not-false (both_accepted s two) (refusal_none 13 (not (both_accepted s two)) [] leaves.1).0

  pub found : Extracts (tree_of_set s) s.height q a xs b ys
  unfolding both_accepted
  found =
      let L = laws s paired.set in
      L.binding s.height q a xs b ys paired.opening.leaf_long paired.other.leaf_long paired.opening.siblings_long paired.other.siblings_long differ
      ((L.accepting s.height top q a xs).0 (left_true (one s two) (other s two) both) ∙ sym ((L.accepting s.height top q b ys).0 (right_true (one s two) (other s two) both)))

  pub collided : collision s two ≡ some found.collision
  unfolding collision
  collided = found.given

  pub replies : extract_reply s two first second ≡ done (level_of (collision s two) ∷ [])
  unfolding extract_reply
  replies = reply_done (extract_refusals s two first second) (level_of (collision s two) ∷ []) (extract_numbered s two first second) z

  module _ (r : ℕ) (e : r ≡ level_or s.height (lowest (collide_at (tree_of_set s) q a xs b ys) s.height)) where
    searched : (o : Option ℕ) → level_or s.height o ≡ level_or_lem s.height (with_rows (tree_of_set s) q a xs b ys o)
    unfolding level_or level_or_lem with_rows
    searched none = refl
    searched (some j) = refl

    is : r ≡ found.collision.level
    unfolding extract level_or_lem
    is = e ∙ searched (lowest (collide_at (tree_of_set s) q a xs b ys) s.height) ∙ ap (level_or_lem s.height) found.given

    pub level_below : r < s.height
    level_below = rw is found.lowest_one.below

    -- the reply and both buffers, of what the level and the rows were found to be
    pub extracted : {row row2 : List ℕ} → row ≡ path_row (tree_of_set s) q a xs r → row2 ≡ path_row (tree_of_set s) q b ys r
        → (done (r ∷ []) ≡ extract_reply s two first second) × (row ≡ extracted_first s two first second) × (row2 ≡ extracted_second s two first second)
    unfolding level_of first_of second_of extracted_first extracted_second
    extracted f g = (
      ap (λ (n : ℕ). done (n ∷ [])) (is ∙ sym (ap level_of collided)) ∙ sym replies,
      f ∙ ap (path_row (tree_of_set s) q a xs) is ∙ sym (ap (λ (o : Option Collision). first_of o first) collided ∙ found.lowest_one.first) ∙ written_after first (first_of (collision s two) first) replies,
      g ∙ ap (path_row (tree_of_set s) q b ys) is ∙ sym (ap (λ (o : Option Collision). second_of o second) collided ∙ found.lowest_one.second) ∙ written_after second (second_of (collision s two) second) replies,
    )

-- and where something is refused
pub refused_extract : (s : ParameterSet) (two : Pair) (first second : List ℕ) (answer : Answer ℕ) (r : Refusal) → IsErrAnd answer (λ e. e ≡ r) → number_of r ≡ first_refusal (extract_refusals s two first second)
    → (extraction_reply answer ≡ extract_reply s two first second) × (first ≡ extracted_first s two first second) × (second ≡ extracted_second s two first second)
unfolding extract_reply extracted_first extracted_second
refused_extract s two first second answer r i e =
    let level = level_of (collision s two) ∷ [] in
    let numbers = λ (n : ℕ). n ∷ [] in
    let f = refusal_returned numbers answer r (extract_refusals s two first second) level first (first_of (collision s two) first) i e in
    (f.0, f.1, (refusal_returned numbers answer r (extract_refusals s two first second) level second (second_of (collision s two) second) i e).1)
