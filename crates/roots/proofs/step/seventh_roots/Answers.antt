use mathlib.Core.Path.{ap}
use native.Mathlib.Omega.{arith}
use Rattle.blocks.specs.Blocks.{flat}
use Rattle.roots.proofs.Chain.{are_roots}
use Rattle.roots.proofs.Steps.{after_none, after_more, after_all}
use Rattle.roots.proofs.step.seventh_roots.Goals as goal
use Rattle.roots.proofs.step.seventh_roots.Goals.{in-Word, in-Reached, in-Same}

pub loop-squarings-init : goal.loop-squarings-init
loop-squarings-init g c = after_none _

pub loop-squarings-preserved : goal.loop-squarings-preserved
loop-squarings-preserved g c =
    let l = c.loop-squarings in
    let words = flat g.row.B in
    elim c.match-by.branch [
      | in-Word w ↦ after_more l.squarings-index l.invariant w.in-Word.is (words c.match-by.factor) (words c.raised-r.result) (ap words w.factor-is) c.raised-r.ensures
      | in-Reached w ↦ after_more l.squarings-index l.invariant w.in-Reached.is (words c.match-by.factor) (words c.raised-r.result) (ap words w.factor-is) c.raised-r.ensures
      | in-Same w ↦ after_more l.squarings-index l.invariant w.in-Same.is (words c.match-by.factor) (words c.raised-r.result) (ap words w.factor-is) c.raised-r.ensures
    ]

pub returns : goal.returns
returns g c =
    let l = c.loop-squarings in
    are_roots (flat g.row.B l.r) (flat g.row.B c.words.result) c.requires (after_all l.squarings-index l.invariant (omega arith)) c.words.ensures
