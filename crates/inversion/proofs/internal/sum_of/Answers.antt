use mathlib.Core.Path.{◌≡◌, sym, ap, ◌∙◌}
use Prim.Native.Nat.{ℕ, ◌%◌}
use native.Mathlib.Omega.{arith}
use lib.ListN.{drop}
use Rattle.fields.specs.Prime.{prime}
use Rattle.fields.proofs.Prime.{positive}
use Rattle.poseidon2.specs.Layers.{sum}
use Rattle.poseidon2.proofs.Words.{below}
use Rattle.poseidon2.proofs.Internal.{sum-residues}
use Rattle.inversion.proofs.Sums.{sum-none, sum_more}
use Rattle.inversion.proofs.internal.sum_of.Goals as goal

pub loop-i-init : goal.loop-i-init
loop-i-init c = (omega arith, sum-none c.args.state.now)

pub lazy_sum-total-requires : goal.lazy_sum-total-requires
lazy_sum-total-requires c = rw c.residue.ensures (below positive _)

pub loop-i-preserved : goal.loop-i-preserved
loop-i-preserved c =
    (omega arith, sum_more c.loop-i.i c.args.state.now c.loop-i-test.true c.loop-i.invariant.0 c.loop-i.invariant.1 c.residue.ensures c.lazy_sum-total.ensures)

pub returns : goal.returns
returns c =
    let ys = c.args.state.now in
    let e : c.loop-i.i ≡ 0 = omega arith in
    c.residue-2.ensures ∙ c.loop-i.invariant.1.same ∙ ap (λ (n : ℕ). sum (drop n ys) % prime) e ∙ sym (sum-residues prime ys).same
