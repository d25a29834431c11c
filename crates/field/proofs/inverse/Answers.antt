use Rattle.std.proofs.Common.{sym, ◌∙◌}
use Rattle.modular.proofs.Goldilocks.{goldilocks_laws}
use Rattle.field.proofs.inverse.Goals as goal

pub returns : goal.returns
returns c =
    c.power.ensures ∙ sym (goldilocks_laws.inverses.power c.args.x c.requires.0 c.requires.1)
