use mathlib.Core.Path.{sym, ◌∙◌}
use Rattle.pushes.proofs.Records.{rise_unrefused}
use Rattle.pushes.proofs.levels.sweep.Goals as goal

pub sweep_from-made-requires : goal.sweep_from-made-requires
sweep_from-made-requires c =
    let z = rise_unrefused c.args.tally (sym c.may_rise.ensures ∙ c.if-not-may_rise.false) in
    (c.requires.accepted z, c.requires.whole z, c.requires.places z, c.requires.first z, c.requires.counts z)
