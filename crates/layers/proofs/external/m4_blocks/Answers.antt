use Rattle.std.proofs.Common.{ℕ, ◌<◌, arith, lit<}
use Rattle.modular.specs.Goldilocks.{p}
use Rattle.blocks.specs.Halves.{AllWithin}
use Rattle.blocks.proofs.External.{m4_all}
use Rattle.layers.proofs.external.m4_blocks.Goals as goal

pub returns : goal.returns
returns g c =
    let block = λ (k : ℕ) (h : k < g.row.B). c.loop-i.invariant.at k (omega arith) in
    let within : AllWithin 274877906880 g.row.B c.loop-i.multiplied = record { at = λ k h. (block k h).1 } in
    (m4_all p g.row.B c.args.s c.loop-i.multiplied (lit< tt) (λ k h. (block k h).0) within, within)
