use Rattle.std.proofs.Common.{◌≡◌, ℕ, sym, ap, ◌∙◌}
use Rattle.refusals.specs.Answers.{Answer}
use Rattle.tree_entries.specs.declared.sizing.TreeSizes.{TreeSizes}
use Rattle.tree_entries.specs.Trees.{sizing_reply}
use Rattle.replies.specs.Replies.{number_of, value_at}
use Rattle.replies.proofs.of_sizing.Goals as goal

-- the reply of the case at hand, in each equation
module _ {a b : Answer TreeSizes} (e : a ≡ b) where
  same_number : number_of (sizing_reply b) ≡ number_of (sizing_reply a)
  same_number = sym (ap (λ (s : Answer TreeSizes). number_of (sizing_reply s)) e)

  same_value : (i old : ℕ) → value_at i (sizing_reply b) old ≡ value_at i (sizing_reply a) old
  same_value i old = sym (ap (λ (s : Answer TreeSizes). value_at i (sizing_reply s) old) e)

pub returns-in-Ok : goal.returns-in-Ok
unfolding number_of value_at
returns-in-Ok c =
    let e = c.in-Ok.is in
    (same_number e, same_value e 0 _, same_value e 1 _, same_value e 2 _)

pub returns-in-Err : goal.returns-in-Err
unfolding number_of value_at
returns-in-Err c =
    let e = c.in-Err.is in
    (c.number.ensures ∙ same_number e, same_value e 0 _, same_value e 1 _, same_value e 2 _)
