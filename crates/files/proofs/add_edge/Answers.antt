use mathlib.Core.Path.{◌≡◌, ap, ◌∙◌}
use Prim.Native.Nat.{ℕ, ◌+◌, ◌*◌}
use native.Mathlib.Omega.{arith}
use lib.ListN.{take, drop}
use Rattle.octets.specs.Numbers.{little_endian}
use Rattle.fields.specs.Prime.{word_bytes}
use Rattle.files.proofs.MessageBytes.{marked}
use Rattle.files.proofs.MessageBlocks.{added_none, untouched, added_word}
use Rattle.files.proofs.add_edge.Goals as goal
use Rattle.files.proofs.add_edge.Goals.{In-loop-i}

pub added-requires : goal.added-requires
added-requires c =
    let own = untouched c.loop-i.i c.loop-i.state (omega (arith, c.requires.0)) c.loop-i.invariant in
    (omega (arith, own, c.requires.3.at c.loop-i.i), c.gathered-word.ensures.1)

pub loop-i-preserved : goal.loop-i-preserved
loop-i-preserved c =
    let place : c.args.from + c.word_bytes-size.result * c.loop-i.i ≡ c.args.from + word_bytes * c.loop-i.i =
    ap (λ (b : ℕ). c.args.from + b * c.loop-i.i) c.word_bytes-size.ensures in
    added_word c.loop-i.i c.loop-i.state (omega arith) c.requires.0 c.loop-i.invariant
    (c.gathered-word.ensures.0 ∙ ap (λ (k : ℕ). little_endian (take word_bytes (drop k (marked c.args.head.now c.args.contents.now)))) place)
    c.added.ensures

pub loop-i-init : goal.loop-i-init
loop-i-init c = added_none
