-- The text is no longer than the output that has it.
use Rattle.std.proofs.Common.{sym, length-take-le}
use Rattle.program.proofs.Texts.{written_fits}
use Rattle.root.proofs.main.Goals as goal

pub slice_bounds-output-end : goal.slice_bounds-output-end
slice_bounds-output-end c =
    let f = c.root_text-written.ensures in
    written_fits _ _ f.value f.output_after

pub slice_bounds-write_all-end : goal.slice_bounds-write_all-end
slice_bounds-write_all-end c =
    let f = c.root_text-written.ensures in
    sym (length-take-le _ _ (written_fits _ _ f.value f.output_after))
