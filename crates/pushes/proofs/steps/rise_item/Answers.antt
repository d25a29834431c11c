use mathlib.Core.Path.{refl, sym, ◌∙◌}
use native.Mathlib.Omega.{arith}
use Rattle.records.specs.Tests.{room_of}
use Rattle.pushes.specs.Passes.{counting, rise_of}
use Rattle.pushes.proofs.Records.{may_unrefused, may_inside}
use Rattle.pushes.proofs.steps.rise_item.Goals as goal

pub rewrite_record-count-requires : goal.rewrite_record-count-requires
unfolding room_of
rewrite_record-count-requires c =
    let t = c.args.tally in
    let may = sym c.may_write.ensures ∙ c.if-not-may_write.false in
    let z = may_unrefused t _ may in
    (c.requires.accepted z, c.requires.whole z, c.requires.places z, c.requires.rank refl z, rw (sym (c.requires.places z)) (may_inside t _ may), omega (arith, c.requires.counts))

pub returns : goal.returns
unfolding rise_of
returns c =
    rw (sym c.may_write.ensures ∙ c.if-not-may_write.false) (
      λ i. counting c.args.tally (c.rewrite_record-count.ensures.0 i),
      c.rewrite_record-count.ensures.1,
    )
