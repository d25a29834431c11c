use mathlib.Core.Path.{◌≡◌, sym, ap, ◌∙◌}
use mathlib.Core.List.{[]}
use Prim.Native.Nat.{◌^◌, ◌<◌}
use native.Mathlib.Omega.{arith}
use Rattle.modular.specs.Arithmetic.{all_words}
use Rattle.modular.proofs.Words.{none_words}
use Rattle.merkle.specs.Numbering.{gather}
use Rattle.merkle.proofs.Numbering.{opening_gather}
use Rattle.trees.specs.Shapes.{tree}
use Rattle.trees.proofs.Shapes.{regular}
use Rattle.trees.proofs.Ascent.{over_leaf, own_place, over_row, over_next}
use Rattle.trees.proofs.Siblings.{gather_none, level_words, level_fails, opening_any}
use Rattle.trees.proofs.openings.opening_is_words.Goals as goal

pub loop-init : goal.loop-init
loop-init c =
    let a = c.args in (
      over_leaf c.requires.0 (c.requires.1 [] []) c.requires.2,
      ap (all_words _) (gather_none (tree a.d [] []) (a.d.arity ^ a.d.height) a.place a.store.now) ∙ none_words _,
    )

pub siblings_are_words-requires : goal.siblings_are_words-requires
siblings_are_words-requires c =
    let b : c.loop.counter < c.args.d.height = c.loop-test.true in
    (c.loop.invariant.0.numbers, over_row c.loop.invariant.0 b, own_place c.loop.invariant.0)

pub returns-then-not-siblings_are_words : goal.returns-then-not-siblings_are_words
returns-then-not-siblings_are_words c =
    let a = c.args in
    let b : c.loop.counter < a.d.height = c.loop-test.true in
    λ D C. level_fails a.store.now c.loop.invariant.0 b _ (sym (c.siblings_are_words.ensures [] []) ∙ c.if-not-siblings_are_words.true)
    ∙ ap (all_words _) (opening_any a.d D C a.place a.store.now)

pub loop-preserved : goal.loop-preserved
loop-preserved c =
    let a = c.args in
    let b : c.loop.counter < a.d.height = c.loop-test.true in (
      over_next c.loop.invariant.0 b c.leaf_count-leaves.result c.leaf_count-leaves.ensures,
      level_words a.store.now c.loop.invariant.0 b _ c.loop.invariant.1 (sym (c.siblings_are_words.ensures [] []) ∙ c.if-not-siblings_are_words.false),
    )

pub returns : goal.returns
returns c =
    let a = c.args in
    let O = c.loop.invariant.0 in
    let e : c.loop.counter ≡ a.d.height = omega (arith, O.levels, c.loop-test.false) in
    λ D C. sym (ap (all_words _)
    (sym (opening_any a.d D C a.place a.store.now)
    ∙ opening_gather (tree a.d [] []) (regular O.numbers [] []) a.d.height a.place O.inside a.store.now O.whole
    ∙ ap (gather (tree a.d [] []) (a.d.arity ^ a.d.height) a.place a.store.now) (sym e)) ∙ c.loop.invariant.1)
