use Rattle.std.proofs.Common.{refl}
use Rattle.layers.proofs.external.total.Goals as goal

pub loop-k-init : goal.loop-k-init
loop-k-init g c = refl
