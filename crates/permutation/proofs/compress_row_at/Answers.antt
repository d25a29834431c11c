use Rattle.std.proofs.Common.{◌*◌, take, drop, ◌∙◌}
use Rattle.modular.specs.Goldilocks.{p}
use Rattle.blocks.specs.Blocks.{flat}
use Rattle.blocks.proofs.Slices.{compress_code, put_compress}
use Rattle.permutation.proofs.compress_row_at.Goals as goal

pub returns : goal.returns
returns g c =
    let a = c.args in
    let t = 4 * g.row.B in
    let row = take t (drop a.from a.store.now) in
    let s = flat g.row.B c.compressed-r.result in
    c.write.ensures
    ∙ put_compress p a.node_size a.half a.partial_rounds a.to a.store.now a.diagonal.now a.constants.now row s
    (compress_code p a.node_size a.half a.partial_rounds a.diagonal.now a.constants.now row s c.compressed-r.ensures)
