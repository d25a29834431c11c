use mathlib.Core.Path.{◌≡◌, sym, ap, ◌∙◌}
use mathlib.Core.Bool.{Bool, cond}
use mathlib.Core.List.{[], ◌∷◌}
use Rattle.refusals.specs.Table.{refused, done}
use Rattle.refusals.proofs.Table.{reply_refused, reply_done}
use Rattle.refusals.proofs.Answers.{nonzero}
use Rattle.tree_entries.specs.Trees.{verdict_reply, verify_refusals, verify_reply}
use Rattle.trees.proofs.SetTrees as tree_of
use Rattle.tree_entries.proofs.AcceptedTrees as trees
use Rattle.tree_entries.proofs.openings.verify.Goals as goal
use Rattle.tree_entries.proofs.openings.verify.Goals.{After-accepts, In_default}

pub returns-in-Err : goal.returns-in-Err
unfolding verdict_reply verify_reply
returns-in-Err c =
    ap refused (c.number.ensures ∙ c.in-Err.ensures) ∙ sym (reply_refused (verify_refusals _ _ _ _ _) _ (λ z. nonzero _ (c.in-Err.ensures ∙ z)))

passed : (c : In_default) → trees.Verified c.args.set c.args.root.now c.args.place c.args.leaf.now c.args.siblings.now
passed c = trees.verify_passed _ _ _ _ _ (sym c.in_default.ensures)

pub dimensions-d-requires : goal.dimensions-d-requires
dimensions-d-requires c = (passed c).set

pub accepts-requires : goal.accepts-requires
accepts-requires c =
    let A = passed (goal.at.accepts-requires c).In_default in
    rw c.dimensions-d.ensures (tree_of.valid_set _ A.set, A.root_long, A.leaf_long, A.siblings_long)

-- the reply, by what was found of the path
answered : (w : After-accepts) → let a = w.args in verify_reply a.set a.root.now a.place a.leaf.now a.siblings.now ≡ done (cond w.accepts.result 1 0 ∷ [])
unfolding verify_reply
answered w =
    reply_done (verify_refusals _ _ _ _ _) _ (trees.verify_numbered _ _ _ _ _) (sym w.in_default.ensures)
    ∙ ap (λ (b : Bool). done (cond b 1 0 ∷ [])) (sym (rw w.dimensions-d.ensures at w.accepts.ensures))

pub returns-then-accepts : goal.returns-then-accepts
unfolding verdict_reply
returns-then-accepts c = sym (answered (goal.at.returns-then-accepts c).After-accepts ∙ ap (λ (b : Bool). done (cond b 1 0 ∷ [])) c.if-accepts.true)

pub returns-else-accepts : goal.returns-else-accepts
unfolding verdict_reply
returns-else-accepts c = sym (answered (goal.at.returns-else-accepts c).After-accepts ∙ ap (λ (b : Bool). done (cond b 1 0 ∷ [])) c.if-accepts.false)
