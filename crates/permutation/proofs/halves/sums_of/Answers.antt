use Rattle.std.proofs.Common.{◌≡◌, ◌*◌, sym, subst, ◌∙◌, arith, rules}
use Rattle.poseidon2.specs.Statements.{Words}
use Rattle.blocks.specs.Blocks.{flat}
use Rattle.blocks.proofs.Slices.{all_of}
use Rattle.blocks.proofs.Loads.{all_within}
use Rattle.permutation.proofs.halves.sums_of.Goals as goal

pub sums-requires : goal.sums-requires
sums-requires g c =
    let a = c.args in
    let loaded : flat g.row.B c.load-s.result ≡ a.list.now = c.load-s.ensures ∙ all_of (4 * g.row.B) a.list.now c.requires.2 in
    (search rules, (c.requires.0, c.requires.1, all_within 4294967295 (omega arith) c.load-s.result g.row.B (subst (Words _) (sym loaded) c.requires.3)))
