-- What holds where the copy of a level's part is not refused, and the part's length.
use mathlib.Core.Path.{◌≡◌, sym, ap, ◌∙◌}
use mathlib.Core.Bool.{not, ◌&&◌}
use mathlib.Core.List.{List}
use Prim.Native.Nat.{ℕ, ◌*◌, ◌<◌}
use native.Mathlib.Omega.{arith}
use lib.Dec.{ltb}
use lib.ListN.{length}
use borrow.Author.Tests.{eqb-true, ltb-true, not-false}
use Rattle.modular.proofs.Words.{left_true, right_true}
use Rattle.refusals.specs.Table.{first_refusal}
use Rattle.refusals.proofs.Table.{Numbered}
use Rattle.refusals.proofs.LengthsPlacesAndWords as three
use Rattle.parameters.specs.declared.ParameterSet.{ParameterSet}
use Rattle.parameters.specs.ParameterSet.{prime_of, set_refusals}
use Rattle.parameters.proofs.Accepted.{set-numbered}
use Rattle.merkle.specs.Lists.{put, part}
use Rattle.merkle.specs.Openings.{siblings_at}
use Rattle.merkle.proofs.Lists.{length_part, part_whole, put_whole}
use Rattle.trees.specs.SetTrees.{tree_of_set, opening_words, part_words}
use Rattle.tree_entries.specs.Trees.{has}
use Rattle.trees.proofs.Counts.{within}
use Rattle.reader_entries.specs.Copies.{copy_refusals}

pub record Passed (s : ParameterSet) (siblings : List ℕ) (j : ℕ) (buffer : List ℕ) : Type 0 where
  pub set : first_refusal (set_refusals s) ≡ 0
  pub long : length siblings ≡ opening_words s
  pub fits : length buffer ≡ part_words s
  pub level : j < s.height

module _ (s : ParameterSet) (siblings : List ℕ) (j : ℕ) (buffer : List ℕ) where
  pub numbered : Numbered (copy_refusals s siblings j buffer)
  unfolding copy_refusals
  numbered = three.all_numbered (prime_of s) _ (set-numbered s) _ _ _

  pub passed_refusals : first_refusal (copy_refusals s siblings j buffer) ≡ 0 → Passed s siblings j buffer
  unfolding copy_refusals
  passed_refusals z =
      let P = three.passed (prime_of s) (set_refusals s) (set-numbered s) (not (has siblings (opening_words s) && has buffer (part_words s))) (not (ltb j s.height)) _ z in
      let both = not-false (has siblings (opening_words s) && has buffer (part_words s)) P.lengths in
      record {
        set = P.before;
        long = eqb-true (length siblings) (opening_words s) (left_true (has siblings (opening_words s)) (has buffer (part_words s)) both);
        fits = eqb-true (length buffer) (part_words s) (right_true (has siblings (opening_words s)) (has buffer (part_words s)) both);
        level = ltb-true j s.height (not-false (ltb j s.height) P.place);
      }

  -- a level's part has the buffer's length
  pub part_long : Passed s siblings j buffer → length (siblings_at (tree_of_set s) siblings j) ≡ length buffer
  unfolding siblings_at
  part_long P = length_part (j * part_words s) (part_words s) siblings (omega (arith, P.long, within (part_words s) P.level)) ∙ sym P.fits

-- a list copied over another of its length
pub whole_copy : (from to : List ℕ) → length from ≡ length to → put to 0 (part 0 (length from) from) ≡ from
whole_copy from to e = ap (put to 0) (part_whole (length from) from (λ i. length from)) ∙ put_whole to from e
