use mathlib.Core.Path.{refl, sym, ◌∙◌}
use native.Mathlib.Omega.{arith}
use lib.Seq.{length-take-le}
use Rattle.program.proofs.ProgramReply.{node_size_few, turned_text, refused_text, done_text}
use Rattle.program.proofs.Texts.{written_as}
use Rattle.program.proofs.text_of.Goals as goal

pub returns-in-Err : goal.returns-in-Err
returns-in-Err c =
    let f = c.put_refused.ensures in
    let whole = written_as (turned_text _ _ c.in-Err.ensures) _ f.value f.output_after in record { value = whole.value; output_after = whole.output_after }

pub slice_bounds-places-end : goal.slice_bounds-places-end
slice_bounds-places-end c = node_size_few _ _ c.in-Ok.ensures refl

pub slice_bounds-node-end : goal.slice_bounds-node-end
slice_bounds-node-end c = sym (length-take-le _ _ (node_size_few _ _ c.in-Ok.ensures refl))

pub put_lines-requires : goal.put_lines-requires
put_lines-requires c =
    let few = node_size_few _ _ c.in-Ok.ensures refl in
    let long = c.storeless_root.auto.node ∙ length-take-le _ _ few in
    (omega (arith, long, few), c.requires)

pub returns-in-Ok-storeless_root : goal.returns-in-Ok-storeless_root
returns-in-Ok-storeless_root c =
    let f = c.put_lines.ensures in
    let r = c.in-Ok-storeless_root.ensures in
    let v = c.in-Ok.ensures in
    let whole = written_as (done_text _ _ v refl _ (length-take-le _ _ (node_size_few _ _ v refl)) _ _ c.leaves_read.ensures r.0 r.1) _ f.value f.output_after in record { value = whole.value; output_after = whole.output_after }

pub returns-in-Err-storeless_root : goal.returns-in-Err-storeless_root
returns-in-Err-storeless_root c =
    let f = c.put_refused-in-Err-storeless_root.ensures in
    let r = c.in-Err-storeless_root.ensures in
    let v = c.in-Ok.ensures in
    let whole = written_as (refused_text _ _ v refl _ (length-take-le _ _ (node_size_few _ _ v refl)) _ _ c.leaves_read.ensures r.0) _ f.value f.output_after in record { value = whole.value; output_after = whole.output_after }
