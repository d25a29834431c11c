use mathlib.Core.Path.{◌∙◌}
use native.Mathlib.Omega.{arith}
use Rattle.files.proofs.MessageBytes.{none_gathered, one_gathered}
use Rattle.files.proofs.message.gathered.Goals as goal

pub loop-i-init : goal.loop-i-init
loop-i-init c = none_gathered c.word_bytes-i.result c.word_bytes-i.ensures

pub loop-i-preserved : goal.loop-i-preserved
loop-i-preserved c =
    one_gathered c.loop-i.i c.loop-i.word c.from.result (omega arith) c.loop-i.invariant (c.from.ensures ∙ c.byte_at.ensures) (omega arith)
