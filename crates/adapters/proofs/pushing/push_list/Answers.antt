use mathlib.Core.Path.{◌≡◌, refl, ap, ◌∙◌}
use Prim.Native.Nat.{ℕ}
use native.Mathlib.Omega.{arith}
use lib.ListN.{take}
use Rattle.push_entries.specs.Pushes.{push_reply, pushed}
use Rattle.adapters.specs.Listed.{first_records}
use Rattle.adapters.proofs.Listed.{filled_none, filled_next, filled_all}
use Rattle.adapters.proofs.pushing.push_list.Goals as goal

pub loop-i-init : goal.loop-i-init
loop-i-init c = filled_none _ _ refl

pub loop-i-preserved : goal.loop-i-preserved
loop-i-preserved c = filled_next _ _ c.loop-i.i _ (omega (arith, c.min-count.ensures)) c.record_at.ensures c.loop-i.invariant

pub returns : goal.returns
returns c =
    let a = c.args in
    let n = c.min-count.result in
    let e : n ≡ c.loop-i.i = omega arith in
    let g : take n c.loop-i.records ≡ first_records a.numbers.now =
    ap (λ (k : ℕ). take k c.loop-i.records) e ∙ filled_all _ _ c.loop-i.i (omega (arith, e, c.min-count.ensures)) c.loop-i.invariant in
    (c.push_first.ensures.0 ∙ ap (push_reply a.set a.store.now) g, c.push_first.ensures.1 ∙ ap (pushed a.set a.store.now) g)
