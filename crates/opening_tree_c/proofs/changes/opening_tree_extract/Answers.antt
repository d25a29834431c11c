use Rattle.parameters.specs.declared.ParameterSet.{ParameterSet}
use Rattle.extraction_entries.specs.Extraction.{extract_reply, pair, extracted_first, extracted_second}
use Rattle.opening_tree_c.proofs.Calls.{entry_buffers_value}
use Rattle.opening_tree_c.proofs.changes.opening_tree_extract.Goals as goal

pub returns : goal.returns
returns c =
    let a = c.args in
    entry_buffers_value c.read-handed.ensures (λ (s : ParameterSet). extract_reply s (pair a.root.now a.place a.first.now a.first_siblings.now a.second.now a.second_siblings.now) a.first_row.now a.second_row.now) (λ (s : ParameterSet). extracted_first s (pair a.root.now a.place a.first.now a.first_siblings.now a.second.now a.second_siblings.now) a.first_row.now a.second_row.now) (λ (s : ParameterSet). extracted_second s (pair a.root.now a.place a.first.now a.first_siblings.now a.second.now a.second_siblings.now) a.first_row.now a.second_row.now) a.level.now c.of_answer.ensures c.extract.ensures
