use native.Mathlib.Omega.{arith}
use Rattle.fields.specs.Prime.{prime}
use Rattle.fields.proofs.Prime.{positive}
use Rattle.inversion.proofs.Flat.{words_at, less_flat}
use Rattle.inversion.proofs.Rounds.{fewer_words}
use Rattle.inversion.proofs.full.less_blocks.Goals as goal

pub less-requires : goal.less-requires
less-requires g c =
    let l = c.loop-i in (
      omega (arith, c.requires.0),
      fewer_words c.requires.1 (omega arith),
      words_at positive c.args.x g.row.B c.requires.2 l.i (omega arith),
    )

pub returns : goal.returns
returns g c = less_flat prime c.args.constants.now c.args.at c.args.x c.loop-i.r g.row.B (λ k l. c.loop-i.invariant.1 k (omega arith))
