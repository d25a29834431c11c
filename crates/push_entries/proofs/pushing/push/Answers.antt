use mathlib.Core.Path.{sym}
use Rattle.push_entries.proofs.Passes.{at_once}
use Rattle.push_entries.proofs.Course.{test_asks, search_asks, mark_asks, rise_asks, sweep_asks, finish_asks, is_pushed}
use Rattle.push_entries.proofs.pushing.push.Goals as goal

pub returns-in_err-begun : goal.returns-in_err-begun
returns-in_err-begun c = at_once _ _ c.args.records.now _ _ c.from_residual.ensures.1 c.in_err-begun.ensures.refused

pub each-tested-requires : goal.each-tested-requires
each-tested-requires c = test_asks _ _ c.args.records.now c.well_formed.1.1.0.1 _ c.in_ok-begun.ensures.begun

pub search-searched-requires : goal.search-searched-requires
search-searched-requires c = search_asks _ c.args.store.now c.args.records.now c.well_formed.1.1.0.1 _ c.in_ok-begun.ensures.begun _ c.each-tested.ensures.0

pub each-marked-requires : goal.each-marked-requires
each-marked-requires c =
    mark_asks _ _ c.args.records.now c.well_formed.1.1.0.1 _ c.in_ok-begun.ensures.begun _ c.each-tested.ensures.0 _ c.search-searched.ensures

pub rise-risen-requires : goal.rise-risen-requires
rise-risen-requires c =
    rise_asks _ _ c.args.records.now c.well_formed.1.1.0.1 _ c.in_ok-begun.ensures.begun _ c.each-tested.ensures.0 _ c.search-searched.ensures
    _ _ c.each-marked.ensures c.each-marked.auto.buffer

pub sweep-swept-requires : goal.sweep-swept-requires
sweep-swept-requires c =
    sweep_asks _ _ c.args.records.now c.well_formed.1.1.0.1 _ c.in_ok-begun.ensures.begun _ c.each-tested.ensures.0 _ c.search-searched.ensures
    _ _ c.each-marked.ensures c.each-marked.auto.buffer _ _ c.rise-risen.ensures c.rise-risen.auto.store

pub returns : goal.returns
returns c =
    is_pushed _ _ c.args.records.now c.well_formed.1.1.0.1 _ c.in_ok-begun.ensures.begun _ c.each-tested.ensures.0 _ c.search-searched.ensures
    _ _ c.each-marked.ensures c.each-marked.auto.buffer _ _ c.rise-risen.ensures c.rise-risen.auto.store
    _ _ c.sweep-swept.ensures _ (c.finish.ensures
    (finish_asks _ _ c.args.records.now c.well_formed.1.1.0.1 _ c.in_ok-begun.ensures.begun _ c.each-tested.ensures.0 _ c.search-searched.ensures
    _ _ c.each-marked.ensures c.each-marked.auto.buffer _ _ c.rise-risen.ensures c.rise-risen.auto.store
    _ _ c.sweep-swept.ensures (sym c.in_ok-begun.ensures.refused)))
