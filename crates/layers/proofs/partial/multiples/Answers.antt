use Rattle.std.proofs.Common.{refl, ◌∙◌, arith, rules, get_or-set_same}
use Rattle.blocks.proofs.Each.{made_more}
use Rattle.blocks.proofs.Round.{multiples_all}
use Rattle.layers.proofs.partial.multiples.Goals as goal

pub loop-i-preserved : goal.loop-i-preserved
loop-i-preserved g c =
    made_more c.loop-i-test.true c.loop-i.invariant (record { head = λ e. absurd (omega arith); behind = λ h. c.multiples_block.ensures })

pub returns : goal.returns
returns g c =
    multiples_all _ c.args.q c.args.diagonal.now g.row.B c.args.s c.loop-i.next c.args.first c.requires.0
    ((c.loop-i.invariant.at 0 (omega arith)).head refl ∙ get_or-set_same c.args.s 0 _ _ (search rules))
    (λ k h b. (c.loop-i.invariant.at k (omega arith)).behind h)
