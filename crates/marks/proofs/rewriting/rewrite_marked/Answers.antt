use mathlib.Core.Path.{sym, ap, ◌∙◌}
use Rattle.merkle.specs.Replacement.{Counted}
use Rattle.trees.specs.Shapes.{tree, counted}
use Rattle.marks.proofs.Marks.{passed, rewritten}
use Rattle.marks.proofs.rewriting.rewrite_marked.Goals as goal

pub returns-then-not-is_marked : goal.returns-then-not-is_marked
returns-then-not-is_marked c =
    let a = c.args in
    let e = passed (tree a.d a.diagonal.now a.constants.now) a.leaves a.n (counted a.store.now a.count)
    (sym (c.is_marked.ensures a.diagonal.now a.constants.now) ∙ c.if-not-is_marked.true) in
    (ap (λ (s : Counted). s.store) e, ap (λ (s : Counted). s.made) e)

pub returns : goal.returns
returns c =
    let a = c.args in
    let e = rewritten (tree a.d a.diagonal.now a.constants.now) a.leaves a.n (counted a.store.now a.count)
    (sym (c.is_marked.ensures a.diagonal.now a.constants.now) ∙ c.if-not-is_marked.false) in
    (c.rewrite_node.ensures.0 ∙ ap (λ (s : Counted). s.store) e, c.rewrite_node.ensures.1 ∙ ap (λ (s : Counted). s.made) e)
