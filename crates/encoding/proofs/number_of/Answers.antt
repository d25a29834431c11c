use Rattle.std.proofs.Common.{◌∙◌}
use Rattle.encoding.proofs.Bytes.{eight_bytes}
use Rattle.encoding.proofs.number_of.Goals as goal

pub returns : goal.returns
returns c = c.from_le_bytes.ensures ∙ eight_bytes c.args.bytes.now
