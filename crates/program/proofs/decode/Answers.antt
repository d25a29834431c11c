use mathlib.Core.Path.{refl, ap, ◌∙◌}
use Prim.Native.Nat.{ℕ, ◌*◌}
use native.Mathlib.Omega.{arith}
use mathlib.Core.List.{List}
use lib.ListN.{take}
use Rattle.octets.specs.Numbers.{little_endian, numbers_of}
use Rattle.program.proofs.ProgramInput.{decoded_more, to_end}
use Rattle.program.proofs.decode.Goals as goal

pub loop-i-init : goal.loop-i-init
unfolding numbers_of
loop-i-init c = refl

pub loop-i-preserved : goal.loop-i-preserved
loop-i-preserved c =
    let bytes = c.args.bytes.now in
    let n = c.number_of.ensures ∙ ap (λ (xs : List ℕ). little_endian (take 8 xs)) (to_end (8 * c.loop-i.i) bytes) in
    decoded_more _ _ _ _ (omega arith) n c.loop-i.invariant
