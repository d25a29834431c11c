use Rattle.std.proofs.Common.{◌≡◌, ◌*◌, sym, subst, ◌∙◌, arith, rules}
use Rattle.poseidon2.specs.Statements.{Words}
use Rattle.blocks.specs.Blocks.{flat}
use Rattle.blocks.proofs.Slices.{all_of}
use Rattle.blocks.proofs.Loads.{all_within}
use Rattle.permutation.proofs.halves.m4_blocks_of.Goals as goal

pub m4_blocks-requires : goal.m4_blocks-requires
m4_blocks-requires g c =
    let a = c.args in
    let loaded : flat g.row.B c.load-s.result ≡ a.list.now = c.load-s.ensures ∙ all_of (4 * g.row.B) a.list.now c.requires.0 in
    (search rules, all_within 17179869180 (omega arith) c.load-s.result g.row.B (subst (Words _) (sym loaded) c.requires.1))
