use Rattle.parameters.specs.declared.ParameterSet.{ParameterSet}
use Rattle.reader_entries.specs.Copies.{copy_reply, copied}
use Rattle.opening_tree_c.proofs.Calls.{entry_buffer}
use Rattle.opening_tree_c.proofs.reading.opening_tree_read_level.Goals as goal

pub returns : goal.returns
returns c =
    let a = c.args in
    entry_buffer c.read-handed.ensures (λ (s : ParameterSet). copy_reply s a.siblings.now a.level a.part.now) (λ (s : ParameterSet). copied s a.siblings.now a.level a.part.now) c.of_outcome.ensures c.copy_level.ensures
