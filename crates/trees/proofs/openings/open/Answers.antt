use mathlib.Core.Path.{◌≡◌, sym, ap, ◌∙◌}
use mathlib.Core.List.{[]}
use Prim.Native.Nat.{ℕ, ◌*◌, ◌-◌, ◌^◌, ◌<◌}
use native.Mathlib.Nat.{zero-mul}
use native.Mathlib.Omega.{arith}
use lib.ListN.{take}
use lib.Seq.{take_all}
use Rattle.merkle.specs.Numbering.{gather}
use Rattle.merkle.proofs.Numbering.{opening_gather}
use Rattle.trees.specs.Shapes.{tree}
use Rattle.trees.proofs.Shapes.{regular}
use Rattle.trees.proofs.Ascent.{over_leaf, own_place, over_row, over_next}
use Rattle.trees.proofs.Siblings.{gather_none, level_inside, level_length, level_copied, opening_any}
use Rattle.trees.proofs.openings.open.Goals as goal

pub loop-level-init : goal.loop-level-init
loop-level-init c =
    let a = c.args in
    let m = (a.d.arity - 1) * a.d.node_size in (
      over_leaf c.requires.0 (c.requires.1 [] []) c.requires.2,
      c.requires.3,
      ap (λ (n : ℕ). take n a.siblings.now) (zero-mul m) ∙ sym (gather_none (tree a.d [] []) (a.d.arity ^ a.d.height) a.place a.store.now),
    )

pub copy_siblings-requires : goal.copy_siblings-requires
copy_siblings-requires c =
    let b : c.loop-level.level < c.args.d.height = c.loop-level-test.true in
    (c.loop-level.invariant.0.numbers, over_row c.loop-level.invariant.0 b, own_place c.loop-level.invariant.0, level_inside c.args.store.now c.loop-level.invariant.0 b c.loop-level.siblings c.loop-level.invariant.1)

pub loop-level-preserved : goal.loop-level-preserved
loop-level-preserved c =
    let a = c.args in
    let b : c.loop-level.level < a.d.height = c.loop-level-test.true in
    let f = c.copy_siblings.ensures [] [] in (
      over_next c.loop-level.invariant.0 b c.leaf_count-leaves.result c.leaf_count-leaves.ensures,
      level_length a.store.now c.loop-level.invariant.0 b c.loop-level.siblings c.loop-level.invariant.1 _ f ∙ c.loop-level.invariant.1,
      level_copied a.store.now c.loop-level.invariant.0 b c.loop-level.siblings c.loop-level.invariant.1 _ f c.loop-level.invariant.2,
    )

pub returns : goal.returns
returns c =
    let a = c.args in
    let O = c.loop-level.invariant.0 in
    let e : c.loop-level.level ≡ a.d.height = omega (arith, O.levels, c.loop-level-test.false) in
    let m = (a.d.arity - 1) * a.d.node_size in
    λ D C. sym (take_all (a.d.height * m) c.loop-level.siblings (omega (arith, c.loop-level.invariant.1)))
    ∙ ap (λ (n : ℕ). take (n * m) c.loop-level.siblings) (sym e) ∙ c.loop-level.invariant.2
    ∙ ap (gather (tree a.d [] []) (a.d.arity ^ a.d.height) a.place a.store.now) e
    ∙ sym (opening_gather (tree a.d [] []) (regular O.numbers [] []) a.d.height a.place O.inside a.store.now O.whole)
    ∙ opening_any a.d D C a.place a.store.now
