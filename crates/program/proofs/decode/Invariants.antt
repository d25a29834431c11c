-- The numbers so far are those of the bytes.
use Rattle.std.proofs.Common.{◌≡◌, take}
use Rattle.octets.specs.Numbers.{numbers_of}
use Rattle.program.proofs.decode.Given as goal

abbrev pub invariant-loop-i : goal.invariant-loop-i
invariant-loop-i l = take l.i l.numbers ≡ numbers_of 8 l.i l.bytes
