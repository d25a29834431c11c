-- The set that validation gives for numbers and lists that it accepts: its used places are those lists, and it is not refused itself.
use mathlib.Core.Path.{◌≡◌, refl, sym, ap, ◌∙◌}
use mathlib.Core.Bool.{not}
use mathlib.Core.List.{List, [], ◌∷◌}
use Prim.Native.Nat.{ℕ}
use lib.ListN.{length-map}
use lib.Seq.{take_at}
use borrow.Author.Tests.{eq-eqb}
use Rattle.modular.specs.Arithmetic.{inverse}
use Rattle.fields.specs.Prime.{prime}
use Rattle.refusals.specs.Table.{refusal, first_refusal}
use Rattle.refusals.proofs.Table.{first_none, first_back, refusal_passes}
use Rattle.poseidon2.specs.Inverse.{inverses, total_inverse}
use Rattle.kept.specs.Kept.{padded, kept_of, fits}
use Rattle.kept.proofs.Tested.{own_fit}
use Rattle.parameters.specs.Refusals.{constant_count, bad_kept, number_refusals, shape_refusals, list_refusals, used_refusals}
use Rattle.parameters.specs.ParameterSet.{held, validation, used_diagonal, used_constants, used_inverses, held_refusals, set_refusals}
use Rattle.parameters.proofs.Accepted.{Shape, numbers_numbered, lists_numbered, shape_numbered, shape_first, shape_of}

module _ (p t l h rf rp : ℕ) (D C : List ℕ) (none : (validation p t l h rf rp D C).number ≡ 0) where
  parts : (first_refusal (shape_refusals t l h rf rp D C) ≡ 0) × (first_refusal (list_refusals p D C) ≡ 0)
  unfolding validation
  parts =
      first_none (shape_refusals t l h rf rp D C) (list_refusals p D C) (shape_numbered t l h rf rp D C)
      (sym (ap first_refusal (shape_first p t l h rf rp D C)) ∙ none)

  pub shape : Shape t l h rf rp D C
  shape = shape_of t l h rf rp D C parts.0

  numbers : first_refusal (number_refusals t l h rf rp) ≡ 0
  unfolding shape_refusals
  numbers = (first_none (number_refusals t l h rf rp) _ (numbers_numbered t l h rf rp) parts.0).0

  pub is_held : (validation p t l h rf rp D C).parameters ≡ held p t l h rf rp D C
  unfolding validation
  is_held = rw (eq-eqb (validation p t l h rf rp D C).number 0 none) refl

  pub held_diagonal : used_diagonal (held p t l h rf rp D C) ≡ D
  unfolding used_diagonal held padded
  held_diagonal = take_at D _ t shape.diagonal

  pub held_constants : used_constants (held p t l h rf rp D C) ≡ C
  unfolding used_constants held padded
  held_constants = take_at C _ (constant_count t rf rp) shape.constants

  held_inverses : used_inverses (held p t l h rf rp D C) ≡ inverses p D
  unfolding used_inverses held kept_of padded inverses
  held_inverses = take_at (inverses p D) _ t (length-map D (inverse p) ∙ shape.diagonal)

  -- 18 does not apply to what is kept
  used_none : first_refusal (used_refusals p D C (inverses p D) (total_inverse p D)) ≡ 0
  unfolding first_refusal used_refusals bad_kept
  used_none =
      first_back (list_refusals p D C) (refusal 18 (not (fits p D (inverses p D) (total_inverse p D))) ∷ []) (lists_numbered p D C) parts.1
      ∙ refusal_passes 18 (not (fits p D (inverses p D) (total_inverse p D))) [] (ap not (own_fit p D))

-- of a set: its prime is the one in use
module _ (t l h rf rp : ℕ) (D C : List ℕ) (none : (validation prime t l h rf rp D C).number ≡ 0) where
  same_used : {E F es : List ℕ} (k : ℕ) → E ≡ D → F ≡ C → es ≡ inverses prime D
      → first_refusal (used_refusals prime E F es k) ≡ first_refusal (used_refusals prime D C (inverses prime D) k)
  same_used k e f g = cc

  pub held_taken : first_refusal (set_refusals (held prime t l h rf rp D C)) ≡ 0
  unfolding set_refusals held_refusals held kept_of
  held_taken =
      first_back (number_refusals t l h rf rp) _ (numbers_numbered t l h rf rp) (numbers prime t l h rf rp D C none)
      ∙ same_used (total_inverse prime D) (held_diagonal prime t l h rf rp D C none) (held_constants prime t l h rf rp D C none) (held_inverses prime t l h rf rp D C none)
      ∙ used_none prime t l h rf rp D C none
