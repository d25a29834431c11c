use Rattle.std.proofs.Common.{◌≡◌, ◌+◌, ◌*◌, ◌≤◌, drop}
use Rattle.poseidon2.specs.Layers.{sum}
use Rattle.blocks.specs.Blocks.{flat}
use Rattle.layers.proofs.partial.others.Given as goal

abbrev pub invariant-loop-i : goal.invariant-loop-i
invariant-loop-i g l =
    (1 ≤ l.i) × (l.chain ≤ 73786976294838206464 * l.i) × (l.other ≤ 73786976294838206464 * l.i) × (l.chain + l.other ≡ sum (drop 1 (flat l.i l.s)))
