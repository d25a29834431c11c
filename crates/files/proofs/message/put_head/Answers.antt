use mathlib.Core.Path.{refl}
use Rattle.files.proofs.MessageBytes.{head_put}
use Rattle.files.proofs.message.put_head.Goals as goal
use Rattle.files.proofs.message.put_head.Goals.{After-put_decimal-end}

pub returns : goal.returns
returns c =
    let w = c.put_bytes-at.ensures in
    let d = c.put_decimal-end.ensures in
    let whole = head_put c.args.head.now c.args.count c.requires.1 c.requires.0 w.value w.output_after d.value d.output_after refl in record { value = whole.0; head_after = whole.1 }
