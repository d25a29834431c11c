use mathlib.Core.Path.{sym}
use Prim.Native.Nat.{ℕ}
use lib.ListN.{length-replicate}
use Rattle.push_entries.proofs.Listed.{part_is_refused, ten_refuses, early_is_refused, test_asks, search_asks, mark_asks, rise_asks, sweep_asks, finish_asks, whole_is_pushed}
use Rattle.push_entries.proofs.pushing.push_listed.Goals as goal

pub returns-in_err-check : goal.returns-in_err-check
returns-in_err-check c = part_is_refused _ _ _ c.if-numbers-ne0.true _ _ c.from_residual.ensures.1 c.in_err-check.ensures

pub returns-then-numbers-ne0 : goal.returns-then-numbers-ne0
returns-then-numbers-ne0 c = ten_refuses _ _ _ c.if-numbers-ne0.true (sym c.in_ok-check.ensures)

-- an early refusal: nothing is read of the records
pub returns-in_err-begun : goal.returns-in_err-begun
returns-in_err-begun c = early_is_refused _ _ _ _ _ c.from_residual-in_err-begun.ensures.1 c.in_err-begun.ensures.refused c.if-numbers-ne0.false

pub slice_bounds-each-end : goal.slice_bounds-each-end
slice_bounds-each-end c = sym (length-replicate {A = ℕ} 128 0)

pub each-tested-requires : goal.each-tested-requires
each-tested-requires c =
    test_asks _ _ c.args.numbers.now _ c.in_ok-begun.ensures.begun c.well_formed.1.1.0.1

pub search-searched-requires : goal.search-searched-requires
search-searched-requires c =
    search_asks _ _ c.args.numbers.now _ c.in_ok-begun.ensures.begun c.well_formed.1.1.0.1 _ c.each-tested.ensures.0

pub mark_listed-marked-requires : goal.mark_listed-marked-requires
mark_listed-marked-requires c =
    mark_asks _ _ c.args.numbers.now _ c.in_ok-begun.ensures.begun c.well_formed.1.1.0.1 _ c.each-tested.ensures.0 _ c.search-searched.ensures

pub rise-risen-requires : goal.rise-risen-requires
rise-risen-requires c =
    rise_asks _ _ c.args.numbers.now _ c.in_ok-begun.ensures.begun c.well_formed.1.1.0.1 _ c.each-tested.ensures.0 _ c.search-searched.ensures
    _ _ c.mark_listed-marked.ensures c.mark_listed-marked.auto.store

pub sweep-swept-requires : goal.sweep-swept-requires
sweep-swept-requires c =
    sweep_asks _ _ c.args.numbers.now _ c.in_ok-begun.ensures.begun c.well_formed.1.1.0.1 _ c.each-tested.ensures.0 _ c.search-searched.ensures
    _ _ c.mark_listed-marked.ensures c.mark_listed-marked.auto.store _ _ c.rise-risen.ensures c.rise-risen.auto.store

pub returns : goal.returns
returns c =
    whole_is_pushed _ _ c.args.numbers.now _ c.in_ok-begun.ensures.begun c.well_formed.1.1.0.1 _ c.each-tested.ensures.0 _ c.search-searched.ensures
    _ _ c.mark_listed-marked.ensures c.mark_listed-marked.auto.store _ _ c.rise-risen.ensures c.rise-risen.auto.store
    _ _ c.sweep-swept.ensures c.if-numbers-ne0.false _ (c.finish.ensures
    (finish_asks _ _ c.args.numbers.now _ c.in_ok-begun.ensures.begun c.well_formed.1.1.0.1 _ c.each-tested.ensures.0 _ c.search-searched.ensures
    _ _ c.mark_listed-marked.ensures c.mark_listed-marked.auto.store _ _ c.rise-risen.ensures c.rise-risen.auto.store
    _ _ c.sweep-swept.ensures (sym c.in_ok-begun.ensures.refused)))
