use Rattle.std.proofs.Common.{◌*◌, take, drop, ap, ◌∙◌}
use Rattle.modular.specs.Goldilocks.{p}
use Rattle.poseidon2.specs.Compression.{compress}
use Rattle.blocks.specs.Blocks.{flat}
use Rattle.blocks.proofs.Slices.{whole, all_of, compress_code}
use Rattle.permutation.proofs.compress_row.Goals as goal

pub returns : goal.returns
returns g c =
    let a = c.args in
    let t = 4 * g.row.B in
    let s = flat g.row.B c.compressed-r.result in
    c.write.ensures ∙ whole a.node.now s a.node_size c.requires.8
    ∙ compress_code p a.node_size a.half a.partial_rounds a.diagonal.now a.constants.now (take t (drop 0 a.row.now)) s c.compressed-r.ensures
    ∙ ap (compress p a.node_size a.half a.partial_rounds a.diagonal.now a.constants.now) (all_of t a.row.now c.requires.7)
