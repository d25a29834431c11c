use mathlib.Core.Path.{◌≡◌, sym, ◌∙◌}
use mathlib.Core.List.{[], ◌∷◌}
use Prim.Native.Nat.{ℕ}
use Rattle.refusals.specs.Table.{done}
use Rattle.refusals.proofs.Table.{done_equations}
use Rattle.refusals.proofs.Answers.{refusal_returned}
use Rattle.parameters.specs.ParameterSet.{set_refusals}
use Rattle.parameters.proofs.Accepted.{set-numbered}
use Rattle.tree_entries.specs.Trees.{sizes_reply}
use Rattle.tree_entries.proofs.sizing.sizes.Goals as goal

pub returns-in_err-check : goal.returns-in_err-check
unfolding sizes_reply
returns-in_err-check c = (refusal_returned _ _ _ (set_refusals _) _ [] [] c.from_residual.ensures.1 c.in_err-check.ensures).0

three : {a b c d e f : ℕ} → a ≡ d → b ≡ e → c ≡ f → done (a ∷ b ∷ c ∷ []) ≡ done (d ∷ e ∷ f ∷ [])
three e f g = λ i. done (e i ∷ f i ∷ g i ∷ [])

pub returns : goal.returns
unfolding sizes_reply
returns c =
    three c.leaf_words.ensures c.store_words.ensures c.opening_words.ensures
    ∙ (done_equations (set_refusals _) _ [] [] (set-numbered _) (sym c.in_ok-check.ensures)).0
