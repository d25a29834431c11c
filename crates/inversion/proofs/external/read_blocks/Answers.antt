use mathlib.Core.Path.{◌≡◌, ap, ◌∙◌}
use Prim.Native.Nat.{ℕ, ◌/◌}
use lib.ListN.{length}
use Rattle.std.specs.Simd.{first_chunks}
use native.Mathlib.Omega.{arith}
use Rattle.blocks.specs.Blocks.{flat}
use Rattle.inversion.proofs.Flat.{flat_chunks}
use Rattle.inversion.proofs.external.read_blocks.Goals as goal

pub returns : goal.returns
returns g c =
    let xs = c.args.state.now in
    let count : length xs / 4 ≡ g.row.B = omega (arith, c.requires) in
    ap (flat g.row.B) (c.copy_from_slice.ensures.after ∙ c.as_chunks.ensures.front ∙ ap (λ (n : ℕ). first_chunks 4 n xs) count)
    ∙ flat_chunks g.row.B xs c.requires
