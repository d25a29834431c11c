use mathlib.Core.List.{[], ◌∷◌}
use Rattle.roots.proofs.Chain.{root_at_once, one_raised, one_stands, one_root}
use Rattle.roots.proofs.lazy_seventh_root.Goals as goal

pub returns : goal.returns
returns c =
    let r = c in
    let y = r.args.y in
    let x2 = r.raised-two.result in
    let x4 = r.raised-four.result in
    let x5 = r.raised-five.result in
    let x10 = r.raised-ten.result in
    let xb = r.raised-both.result in
    let xm = r.raised-most.result in
    let x7 = r.seventh_power.result in
    one_root y r.raised.result
    (root_at_once (y ∷ []) (x2 ∷ []) (x4 ∷ []) (x5 ∷ []) (x10 ∷ []) (xb ∷ []) (xm ∷ [])
    (one_raised y 3 y x2 r.raised-two.ensures) (one_raised x2 6 x2 x4 r.raised-four.ensures) (one_raised x4 3 y x5 r.raised-five.ensures)
    (one_raised x5 15 x5 x10 r.raised-ten.ensures) (one_raised x10 31 x10 xb r.raised-both.ensures) (one_raised xb 1 x10 xm r.raised-most.ensures)
    (x7 ∷ []) (r.raised.result ∷ []) (one_stands y 7 x7 r.seventh_power.ensures) (one_raised xm 4 x7 r.raised.result r.raised.ensures))
