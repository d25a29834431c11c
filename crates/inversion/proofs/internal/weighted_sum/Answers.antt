use mathlib.Core.Path.{◌≡◌, ap, subst, ◌∙◌}
use Prim.Native.Nat.{ℕ, ◌*◌, ◌-◌, ◌/◌}
use native.Mathlib.Omega.{arith}
use lib.ListN.{length}
use Rattle.modular.specs.Congruence.{◌≈⟨◌⟩◌}
use Rattle.modular.proofs.Congruence.{eq≈, trans≈}
use Rattle.fields.specs.Prime.{prime}
use Rattle.fields.proofs.Prime.{positive}
use Rattle.poseidon2.specs.Residues.{residues}
use Rattle.poseidon2.proofs.Words.{below}
use Rattle.inversion.proofs.Sums.{dot_from, dot_none, dot_all, dot_more}
use Rattle.inversion.proofs.internal.weighted_sum.Goals as goal

pub loop-i-init : goal.loop-i-init
loop-i-init c =
    let a = c.args in
    let n = length a.state.now in
    let ys = residues prime a.state.now in
    let whole : n ≡ 4 * (n / 4) = omega (arith, c.requires.1) in
    (omega arith, subst (λ (k : ℕ). 0 ≈⟨ prime ⟩ dot_from a.inverses.now ys n k) whole (dot_none a.inverses.now ys n))

pub lazy_sum-total-requires : goal.lazy_sum-total-requires
lazy_sum-total-requires c = rw c.residue.ensures (below positive _)

pub loop-i-preserved : goal.loop-i-preserved
loop-i-preserved c =
    let a = c.args in
    let i = c.loop-i.i in
    (omega arith, dot_more a.inverses.now (residues prime a.state.now) (length a.state.now) (4 * i) (4 * (i - 1)) (omega arith) c.loop-i.invariant.0 c.loop-i.invariant.1 c.weighted_block.ensures c.residue.ensures c.lazy_sum-total.ensures)

pub returns : goal.returns
returns c =
    let a = c.args in
    let n = length a.state.now in
    let e : 4 * c.loop-i.i ≡ 0 = omega arith in
    let ys = residues prime a.state.now in
    trans≈ c.loop-i.invariant.1 (eq≈ (ap (dot_from a.inverses.now ys n) e ∙ dot_all a.inverses.now ys n))
