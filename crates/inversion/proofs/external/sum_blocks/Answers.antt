use mathlib.Core.Path.{sym, subst}
use native.Mathlib.Omega.{arith}
use Rattle.fields.specs.Prime.{prime}
use Rattle.fields.proofs.Prime.{positive}
use Rattle.poseidon2.specs.Statements.{Words}
use Rattle.poseidon2.proofs.Words.{add_lists-words}
use Rattle.inversion.proofs.Flat.{words_at, total_first, total_more, total_all}
use Rattle.inversion.proofs.external.sum_blocks.Goals as goal

pub loop-i-init : goal.loop-i-init
loop-i-init g c = total_first prime g.row.B c.args.x c.requires.0 (words_at positive c.args.x g.row.B c.requires.1 0 c.requires.0)

pub add_blocks-next-requires : goal.add_blocks-next-requires
add_blocks-next-requires g c = (c.loop-i.invariant.words, words_at positive c.args.x g.row.B c.requires.1 c.loop-i.i (omega arith))

pub loop-i-preserved : goal.loop-i-preserved
loop-i-preserved g c =
    total_more prime c.add_blocks-next.result c.loop-i.invariant (omega arith) (subst (Words prime) (sym c.add_blocks-next.ensures) (add_lists-words positive _ _))
    c.add_blocks-next.ensures

pub returns : goal.returns
returns g c = total_all prime c.loop-i.invariant (omega arith)
