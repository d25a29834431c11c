-- The refusals of extraction where 1 to 12 do not apply: what the two verdicts and the leaves give.
use mathlib.Core.Path.{◌≡◌, refl, sym, ap, ◌∙◌}
use mathlib.Core.Logic.{◌≢◌}
use mathlib.Core.Bool.{Bool, true, false, not, cond}
use mathlib.Core.List.{List, [], ◌∷◌}
use Prim.Native.Nat.{ℕ}
use native.Mathlib.Omega.{arith}
use Rattle.refusals.specs.Table.{refusal, first_refusal, Reply, refused, done}
use Rattle.refusals.proofs.Table.{first_back, reply_done, refusal_applies, refusal_passes}
use Rattle.refusals.proofs.LengthsAndWords.{and_false_left, and_true_left}
use Rattle.parameters.specs.declared.ParameterSet.{ParameterSet}
use Rattle.merkle.specs.Lists.{same}
use Rattle.merkle.specs.Openings.{accepts}
use Rattle.tree_entries.specs.declared.verdict.Verdict.TheVariants.{Accepted, Rejected, Refused}
use Rattle.trees.specs.SetTrees.{tree_of_set}
use Rattle.tree_entries.specs.Trees.{verdict_reply, verify_refusals, verify_reply}
use Rattle.tree_entries.proofs.AcceptedTrees.{verify_numbered}
use Rattle.extraction_entries.specs.Extraction.{Pair, pair_refusals, both_accepted, extract_refusals}
use Rattle.extraction_entries.proofs.AcceptedPairs.{pair_numbered}

-- the number of a result, and 2 for a refusal
abbrev value : Reply → ℕ
value (done (n ∷ ns)) = n
value (done []) = 2
value (refused n) = 2

refusal_of_yes : (b : Bool) → ◌≡◌ {A = ℕ} 1 (cond b 1 0) → ◌≡◌ {A = ℕ} 0 (first_refusal (refusal 14 (not b) ∷ []))
unfolding first_refusal
refusal_of_yes true e = refl
refusal_of_yes false e = absurd (omega (arith, e))

refusal_of_no : (b : Bool) → ◌≡◌ {A = ℕ} 0 (cond b 1 0) → ◌≡◌ {A = ℕ} 14 (first_refusal (refusal 14 (not b) ∷ []))
unfolding first_refusal
refusal_of_no true e = absurd (omega (arith, e))
refusal_of_no false e = refl

no_value : (b : Bool) → ◌≡◌ {A = ℕ} 2 (cond b 1 0) → ⊥
no_value true e = omega (arith, e)
no_value false e = omega (arith, e)

module _ (s : ParameterSet) (top : List ℕ) (q : ℕ) (leaf siblings : List ℕ) (none : first_refusal (verify_refusals s top q leaf siblings) ≡ 0) where
  abbrev yes : Bool
  yes = accepts (tree_of_set s) s.height top q leaf siblings

  decided : {r : Reply} → r ≡ verify_reply s top q leaf siblings → value r ≡ cond yes 1 0
  unfolding verify_reply
  decided said = ap value (said ∙ reply_done (verify_refusals s top q leaf siblings) (cond yes 1 0 ∷ []) (verify_numbered s top q leaf siblings) none)

  pub accepted_passes : verdict_reply Accepted ≡ verify_reply s top q leaf siblings → ◌≡◌ {A = ℕ} 0 (first_refusal (refusal 14 (not yes) ∷ []))
  unfolding verdict_reply
  accepted_passes said = refusal_of_yes yes (decided said)

  pub rejected_refused : verdict_reply Rejected ≡ verify_reply s top q leaf siblings → ◌≡◌ {A = ℕ} 14 (first_refusal (refusal 14 (not yes) ∷ []))
  unfolding verdict_reply
  rejected_refused said = refusal_of_no yes (decided said)

  pub never_refused : (n : ℕ) → verdict_reply (Refused n) ≡ verify_reply s top q leaf siblings → ⊥
  unfolding verdict_reply
  never_refused n said = no_value yes (decided said)

-- the refusal of an opening, by whether it is accepted
pub opening_accepted : (b : Bool) → ◌≡◌ {A = ℕ} 0 (first_refusal (refusal 14 (not b) ∷ [])) → b ≡ true
unfolding first_refusal
opening_accepted true e = refl
opening_accepted false e = absurd (omega (arith, e))

opening_rejected : (b : Bool) {r : ℕ} → r ≡ first_refusal (refusal 14 (not b) ∷ []) → r ≢ 0 → (b ≡ false) × (r ≡ 14)
unfolding first_refusal
opening_rejected true e n = absurd (n e)
opening_rejected false e n = (refl, e)

-- the verdicts on the two openings
module _ (s : ParameterSet) (two : Pair) where
  abbrev pub one : Bool
  one = accepts (tree_of_set s) s.height two.root two.place two.first_leaf two.first_siblings

  abbrev pub other : Bool
  other = accepts (tree_of_set s) s.height two.root two.place two.second_leaf two.second_siblings

-- the refusals behind 12
module _ (s : ParameterSet) (two : Pair) (first second : List ℕ) (none : first_refusal (pair_refusals s two first second) ≡ 0) where
  behind : first_refusal (extract_refusals s two first second) ≡ first_refusal (refusal 15 (same two.first_leaf two.second_leaf) ∷ refusal 14 (not (both_accepted s two)) ∷ [])
  unfolding extract_refusals
  behind = first_back (pair_refusals s two first second) _ (pair_numbered s two first second) none

  pub equal_leaves : same two.first_leaf two.second_leaf ≡ true → ◌≡◌ {A = ℕ} 15 (first_refusal (extract_refusals s two first second))
  equal_leaves e = sym (behind ∙ refusal_applies 15 (same two.first_leaf two.second_leaf) _ e)

  -- the verdicts on other leaves
  module _ (apart : same two.first_leaf two.second_leaf ≡ false) where
    by_verdicts : first_refusal (extract_refusals s two first second) ≡ first_refusal (refusal 14 (not (both_accepted s two)) ∷ [])
    by_verdicts = behind ∙ refusal_passes 15 (same two.first_leaf two.second_leaf) _ apart

    -- the first is not accepted
    pub first_rejected : {r : ℕ} → r ≡ first_refusal (refusal 14 (not (one s two)) ∷ []) → r ≢ 0 → r ≡ first_refusal (extract_refusals s two first second)
    unfolding both_accepted
    first_rejected e n =
        let f = opening_rejected (one s two) e n in
        f.1 ∙ sym (by_verdicts ∙ refusal_applies 14 (not (both_accepted s two)) [] (ap not (and_false_left (one s two) (other s two) f.0)))

    -- the first is accepted, and the second decides
    pub second_decides : one s two ≡ true → {r : ℕ} → r ≡ first_refusal (refusal 14 (not (other s two)) ∷ []) → r ≡ first_refusal (extract_refusals s two first second)
    unfolding both_accepted
    second_decides o e = e ∙ sym (by_verdicts ∙ ap (λ (b : Bool). first_refusal (refusal 14 (not b) ∷ [])) (and_true_left (one s two) (other s two) o))

    pub both_accepted_lem : both_accepted s two ≡ true → first_refusal (extract_refusals s two first second) ≡ 0
    unfolding first_refusal
    both_accepted_lem e = by_verdicts ∙ refusal_passes 14 (not (both_accepted s two)) [] (ap not e)
