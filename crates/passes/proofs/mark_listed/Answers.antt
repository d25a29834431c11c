use mathlib.Core.Path.{sym, ap, subst, ◌∙◌}
use mathlib.Core.List.{List, []}
use Prim.Native.Nat.{ℕ}
use native.Mathlib.Omega.{arith}
use lib.ListN.{get_or}
use Rattle.records.specs.Listed.{listed}
use Rattle.records.specs.Tests.{Pass, Going, room_of}
use Rattle.records.proofs.Listed.{listed_count}
use Rattle.pushes.proofs.Records.{rise_unrefused}
use Rattle.passes.proofs.Turns.{reached_none, reached_all, marks_none, six_of, marks_next}
use Rattle.passes.proofs.mark_listed.Goals as goal

pub returns-then-not-may_rise : goal.returns-then-not-may_rise
returns-then-not-may_rise c =
    let e = sym (marks_none c.args.set (listed c.args.numbers.now) c.args.tally c.args.store.now (sym c.may_rise.ensures ∙ c.if-not-may_rise.true)) in
    (ap (λ (u : Pass). u.tally) e, ap (λ (u : Pass). u.buffer) e)

pub loop-part-init : goal.loop-part-init
loop-part-init c = reached_none _ _ _ _ _ (subst (Going c.args.set 1 c.args.store.now c.args.tally) (sym (listed_count c.args.numbers.now)) c.requires)

pub mark_leaf-requires : goal.mark_leaf-requires
unfolding room_of
mark_leaf-requires c =
    let G = c.loop-part.invariant.going in
    let z = rise_unrefused c.args.tally (sym c.may_rise.ensures ∙ c.if-not-may_rise.false) in
    let part = ap (λ (xs : List (List ℕ)). get_or xs c.loop-part.part-index []) c.as_chunks.ensures.front in
    (G.accepted z, G.whole z, G.places z, six_of c.args.numbers.now c.loop-part.part-index (omega (arith, c.as_chunks.ensures.front_len)) part)

pub loop-part-preserved : goal.loop-part-preserved
loop-part-preserved c =
    let part = ap (λ (xs : List (List ℕ)). get_or xs c.loop-part.part-index []) c.as_chunks.ensures.front in
    marks_next c.args.numbers.now c.loop-part.part-index (omega (arith, c.as_chunks.ensures.front_len)) part c.loop-part.invariant
    (sym c.may_rise.ensures ∙ c.if-not-may_rise.false) _ c.mark_leaf.ensures c.mark_leaf.auto.store

pub returns : goal.returns
returns c = reached_all _ _ _ _ _ _ _ _ c.loop-part.invariant (omega (arith, c.as_chunks.ensures.front_len, listed_count c.args.numbers.now))
