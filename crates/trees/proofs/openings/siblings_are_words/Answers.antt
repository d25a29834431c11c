use Rattle.std.proofs.Common.{sym, ◌∙◌, ◌+◌, ◌*◌, ◌-◌, arith}
use Rattle.trees.specs.Shapes.{tree}
use Rattle.trees.proofs.Shapes.{regular}
use Rattle.trees.proofs.Siblings.{siblings_fail, siblings_rest}
use Rattle.trees.proofs.openings.siblings_are_words.Goals as goal

pub returns-else-few_words : goal.returns-else-few_words
returns-else-few_words c =
    let a = c.args in
    let t = a.n * (a.d.arity * a.d.node_size) in
    λ D C. c.if-few_words.false ∙ siblings_fail (tree a.d D C) (regular c.requires.0 D C) a.n a.c a.store.now c.requires.2 c.requires.1 _ (t + a.c * a.d.node_size - t) (omega arith)
    (sym c.few_words.ensures ∙ c.if-few_words.false)

pub returns-then-few_words : goal.returns-then-few_words
returns-then-few_words c =
    let a = c.args in
    let k = a.d.arity in
    let l = a.d.node_size in
    let t = a.n * (k * l) in
    λ D C. c.few_words-then-few_words.ensures
    ∙ siblings_rest (tree a.d D C) (regular c.requires.0 D C) a.n a.c a.store.now c.requires.2 c.requires.1 _ (t + a.c * l - t) (t + k * l - (t + a.c * l + l)) (omega arith) (omega arith)
    (sym c.few_words.ensures ∙ c.if-few_words.true)
