-- Extraction gives a collision wherever none of refusals 1 to 12 applies and two different leaves are both accepted.
use mathlib.Core.Path.{◌≡◌, sym, ap, subst, ◌∙◌}
use mathlib.Core.List.{List, [], ◌∷◌}
use mathlib.Core.Option.{Option}
use Prim.Native.Nat.{ℕ, ◌<◌}
use Rattle.refusals.specs.Table.{first_refusal, done}
use Rattle.refusals.proofs.Table.{written_after}
use Rattle.parameters.specs.declared.ParameterSet.{ParameterSet}
use Rattle.parameters.specs.ParameterSet.{prime_of, set_refusals}
use Rattle.merkle.specs.Openings.{path_row}
use Rattle.merkle.specs.Extraction.{Collision}
use Rattle.merkle.proofs.Lists.{ne_same}
use Rattle.merkle.proofs.Openings.{length-path_row, path_row_words}
use Rattle.trees.proofs.Shapes.{keeps_words}
use Rattle.state_entries.specs.Permutation.{compress_under}
use Rattle.trees.specs.SetTrees.{tree_of_set}
use Rattle.trees.proofs.SetTrees.{valid_numbers, width_is, shape_regular}
use Rattle.extraction_entries.specs.Extraction.{Pair, extract_refusals, collision, level_of, first_of, second_of, extracted_first, extracted_second}
use Rattle.extraction_entries.specs.Statements.{IsRow, Collides, Written, Extracting}
use Rattle.extraction_entries.proofs.AcceptedPairs.{Opening}
use Rattle.extraction_entries.proofs.Verdicts.{both_accepted_lem}
use Rattle.extraction_entries.proofs.Extracted.{paired, found, collided, replies}

-- what a verdict compresses at a level is a row
row_at : (s : ParameterSet) → first_refusal (set_refusals s) ≡ 0 → (q : ℕ) (leaf siblings : List ℕ) → Opening s leaf siblings
    → (j : ℕ) → j < s.height → IsRow s (path_row (tree_of_set s) q leaf siblings j)
row_at s valid q leaf siblings O j below = (
  length-path_row (tree_of_set s) (shape_regular s valid) s.height q leaf siblings O.leaf_long O.siblings_long j below ∙ width_is s valid,
  path_row_words (tree_of_set s) (shape_regular s valid) s.height q leaf siblings O.leaf_long O.siblings_long (prime_of s) (keeps_words (valid_numbers s valid) s.diagonal s.constants) O.leaf_words_lem O.siblings_words j below,
)

module _ (s : ParameterSet) (two : Pair) (first second : List ℕ) (z : first_refusal (extract_refusals s two first second) ≡ 0) where
  one : extracted_first s two first second ≡ (found s two first second z).collision.first
  unfolding first_of extracted_first
  one =
      sym (written_after first (first_of (collision s two) first) (replies s two first second z))
      ∙ ap (λ (o : Option Collision). first_of o first) (collided s two first second z)

  other : extracted_second s two first second ≡ (found s two first second z).collision.second
  unfolding second_of extracted_second
  other =
      sym (written_after second (second_of (collision s two) second) (replies s two first second z))
      ∙ ap (λ (o : Option Collision). second_of o second) (collided s two first second z)

  collides : Collides s two first second
  unfolding level_of compress_under
  collides =
      let C = (found s two first second z).lowest_one in
      record {
        level = (found s two first second z).collision.level;
        answered = replies s two first second z ∙ ap (λ (o : Option Collision). done (level_of o ∷ [])) (collided s two first second z);
        differ = λ w. C.differ (sym one ∙ w ∙ other);
        alike = ap (tree_of_set s).compress one ∙ C.alike ∙ sym (ap (tree_of_set s).compress other);
      }

  pub written : Written s two first second
  unfolding level_of
  written =
      let P = paired s two first second z in
      let c = (found s two first second z).collision in
      let C = (found s two first second z).lowest_one in
      record {
        below = subst (λ (o : Option Collision). level_of o < s.height) (sym (collided s two first second z)) C.below;
        rows = (
          subst (IsRow s) (sym (one ∙ C.first)) (row_at s P.set two.place two.first_leaf two.first_siblings P.opening c.level C.below),
          subst (IsRow s) (sym (other ∙ C.second)) (row_at s P.set two.place two.second_leaf two.second_siblings P.other c.level C.below),
        );
      }

pub extracting : Extracting
extracting s two first second none both differ =
    let z = both_accepted_lem s two first second none (ne_same two.first_leaf two.second_leaf differ) both in
    (collides s two first second z, written s two first second z)
