-- The number 0 is returned for an opening that is accepted, and for nothing else: the number of every refusal is above 0.
use mathlib.Core.Path.{◌≡◌, refl, sym, ap, ◌∙◌}
use mathlib.Core.Logic.{◌≢◌}
use mathlib.Core.Bool.{Bool, true, false, cond}
use mathlib.Core.List.{List, [], ◌∷◌}
use Prim.Native.Nat.{ℕ, zero, suc}
use native.Mathlib.Omega.{arith}
use Rattle.refusals.specs.Table.{Refusal, first_refusal, done, reply}
use Rattle.refusals.proofs.Table.{Numbered, refused_equations, done_equations}
use Rattle.parameters.specs.declared.ParameterSet.{ParameterSet}
use Rattle.set_arrays.specs.Arrays.{set_of}
use Rattle.merkle.specs.Openings.{accepts}
use Rattle.trees.specs.SetTrees.{tree_of_set}
use Rattle.tree_entries.specs.Trees.{verify_refusals, verify_reply}
use Rattle.tree_entries.proofs.AcceptedTrees.{verify_numbered}
use Rattle.replies.specs.Replies.{verdict_number}
use Rattle.opening_tree_c.specs.Statements.{Yes, returned, OnlyYes}

-- 0 behind an entry's refusals: none applies, and the value is not 0
zero_behind : (refusals : List Refusal) → Numbered refusals → (x : ℕ) → verdict_number (reply refusals (x ∷ [])) ≡ 0 → (first_refusal refusals ≡ 0) × (x ≢ 0)
unfolding verdict_number
zero_behind refusals N x e = of (first_refusal refusals) refl
  where
    of : (k : ℕ) → first_refusal refusals ≡ k → (first_refusal refusals ≡ 0) × (x ≢ 0)
    of zero z =
        let E = (done_equations refusals (x ∷ []) [] [] N z).0 in
        (z, λ n. absurd (omega (arith, sym (ap (λ (y : ℕ). verdict_number (done (y ∷ []))) n) ∙ ap verdict_number E ∙ e)))
    of (suc k) z =
        let E = (refused_equations refusals (x ∷ []) [] [] (suc k) (sym z) (λ n. absurd (omega (arith, n)))).0 in
        absurd (omega (arith, ap verdict_number E ∙ e))

is_true : (b : Bool) → ◌≢◌ {A = ℕ} (cond b 1 0) 0 → b ≡ true
is_true true o = refl
is_true false o = absurd (o refl)

module _ (xs top : List ℕ) (q : ℕ) (leaf siblings : List ℕ) where
  abbrev s : ParameterSet
  s = set_of xs

  abbrev yes : Bool
  yes = accepts (tree_of_set s) s.height top q leaf siblings

  is_yes : returned xs top q leaf siblings ≡ 0 → Yes xs top q leaf siblings
  unfolding verify_reply
  is_yes e =
      let R = zero_behind (verify_refusals s top q leaf siblings) (verify_numbered s top q leaf siblings) (cond yes 1 0) e in
      record { unrefused = R.0; accepted = is_true yes R.1 }

  is_zero : Yes xs top q leaf siblings → returned xs top q leaf siblings ≡ 0
  unfolding verify_reply verdict_number
  is_zero y =
      let E = (done_equations (verify_refusals s top q leaf siblings) (cond yes 1 0 ∷ []) [] [] (verify_numbered s top q leaf siblings) y.unrefused).0 in
      sym (ap verdict_number E) ∙ ap (λ (b : Bool). verdict_number (done (cond b 1 0 ∷ []))) y.accepted

pub only_yes : OnlyYes
only_yes xs top q leaf siblings = (is_yes xs top q leaf siblings, is_zero xs top q leaf siblings)
