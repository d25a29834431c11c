use Rattle.std.proofs.Common.{◌*◌, take, drop, ◌∙◌}
use Rattle.modular.specs.Goldilocks.{p}
use Rattle.poseidon2.specs.Rounds.{permute}
use Rattle.blocks.proofs.Slices.{added_row}
use Rattle.permutation.proofs.compressed.Goals as goal

pub returns : goal.returns
returns g c =
    let a = c.args in
    c.add_input.ensures
    ∙ added_row p g.row.B c.permute-r.result (permute p a.half a.partial_rounds a.diagonal.now a.constants.now (take (4 * g.row.B) (drop a.from a.list.now))) (drop a.from a.list.now)
    c.permute-r.ensures
