use native.Mathlib.Omega.{arith}
use Rattle.passes.proofs.Searching.{search_begins, search_asks, search_next, search_ends}
use Rattle.passes.proofs.search.Goals as goal

pub loop-window-init : goal.loop-window-init
loop-window-init g c = search_begins _ _ _ _ c.requires

pub each-sum-requires : goal.each-sum-requires
each-sum-requires g c =
    search_asks _ _ _ _ c.requires _ _ c.loop-window.invariant (omega (arith, c.windows_searched-window-end.ensures))

pub loop-window-preserved : goal.loop-window-preserved
loop-window-preserved g c =
    search_next _ _ _ _ c.requires _ _ c.loop-window.invariant (omega (arith, c.windows_searched-window-end.ensures)) _ c.each-sum.ensures.0

pub returns : goal.returns
returns g c =
    search_ends _ _ _ _ c.requires _ _ c.loop-window.invariant (omega (arith, c.windows_searched-window-end.ensures))
