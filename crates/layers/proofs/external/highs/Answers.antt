use Rattle.std.proofs.Common.{ℕ, ◌/◌, ◌<◌, arith}
use Rattle.blocks.proofs.Each.{map_all}
use Rattle.layers.proofs.external.highs.Goals as goal

pub returns : goal.returns
returns g c =
    let part = λ (k : ℕ) (h : k < g.row.B). c.loop-i.invariant.at k (omega arith) in
    (map_all (λ n. n / 4294967296) g.row.B c.args.s c.loop-i.parts (λ k h. (part k h).0), record { at = λ k h. (part k h).1 })
