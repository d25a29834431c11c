use mathlib.Core.Path.{◌∙◌}
use Rattle.program.specs.Program.{read_validation, read_count}
use Rattle.program.proofs.ProgramInput.{same_take, same_validation, first_of}
use Rattle.program.proofs.set_read.Goals as goal

pub returns : goal.returns
unfolding read_validation
returns c =
    let width = c.number_at-width.ensures in
    c.validate.ensures
    ∙ same_validation _
    width
    c.number_at.ensures
    c.number_at-2.ensures
    c.number_at-3.ensures
    c.number_at-4.ensures
    (c.first.ensures ∙ same_take width c.beyond-lists.ensures)
    (c.first-2.ensures ∙ same_take c.constants_read.ensures c.after_diagonal-rest.ensures ∙ first_of (read_count c.args.numbers.now) _)
