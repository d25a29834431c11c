use mathlib.Core.Path.{sym, ◌∙◌}
use mathlib.Core.List.{[]}
use Prim.Native.Nat.{◌<◌}
use Rattle.trees.proofs.Ascent.{over_node}
use Rattle.marks.proofs.Marks.{rising_none, rising_ends, rising_more, rising_all}
use Rattle.marks.proofs.marking.mark_above.Goals as goal

pub loop-init : goal.loop-init
loop-init c =
    rising_none c.args.store.now c.requires.0 (c.requires.1 [] []) c.requires.3

pub is_marked-requires : goal.is_marked-requires
is_marked-requires c =
    let b : c.loop.counter < c.args.d.height = c.loop-test.true in
    (c.requires.0, over_node c.loop.invariant.at b c.args.leaves c.requires.2)

pub returns-then-is_marked : goal.returns-then-is_marked
returns-then-is_marked c =
    let b : c.loop.counter < c.args.d.height = c.loop-test.true in
    rising_ends c.loop.store c.loop.invariant b c.args.leaves c.requires.2 (λ D C. sym c.if-is_marked.true ∙ c.is_marked.ensures D C)

pub mark_node-requires : goal.mark_node-requires
mark_node-requires c =
    let b : c.loop.counter < c.args.d.height = c.loop-test.true in
    (c.requires.0, over_node c.loop.invariant.at b c.args.leaves c.requires.2)

pub loop-preserved : goal.loop-preserved
loop-preserved c =
    let b : c.loop.counter < c.args.d.height = c.loop-test.true in
    rising_more c.loop.store c.loop.invariant b c.args.leaves c.requires.2 (λ D C. sym c.if-is_marked.false ∙ c.is_marked.ensures D C) _ c.mark_node.ensures

pub returns : goal.returns
returns c = rising_all c.loop.store c.loop.invariant c.loop-test.false
