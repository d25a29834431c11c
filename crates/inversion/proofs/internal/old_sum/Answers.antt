use mathlib.Core.Path.{sym, ◌∙◌}
use Prim.Native.Nat.{◌<◌, ◌≤◌}
use native.Mathlib.Omega.{arith}
use lib.ListN.{length, take}
use Rattle.modular.specs.Arithmetic.{mul}
use Rattle.modular.proofs.Congruence.{refl≈, mul≈}
use Rattle.fields.specs.Prime.{prime}
use Rattle.poseidon2.specs.Residues.{residues}
use Rattle.poseidon2.proofs.Words.{residues_length}
use Rattle.inversion.proofs.Residues.{get_d_residues}
use Rattle.inversion.proofs.Kept.{sum-there, sum-made}
use Rattle.inversion.proofs.internal.old_sum.Goals as goal

pub returns-then-zero-state : goal.returns-then-zero-state
returns-then-zero-state c =
    let a = c.args in
    let ys = a.state.now in
    let there : a.zero < length (residues prime ys) = omega (arith, c.if-zero-state.true, residues_length prime ys) in
    c.residue.ensures ∙ sym (sum-there a.zero (take (length ys) a.inverses.now) a.total_inverse (residues prime ys) there ∙ get_d_residues prime ys a.zero)

pub returns : goal.returns
unfolding mul
returns c =
    let a = c.args in
    let ys = a.state.now in
    let es = take (length ys) a.inverses.now in
    let beyond : length (residues prime ys) ≤ a.zero = omega (arith, c.if-zero-state.false, residues_length prime ys) in
    c.product.ensures
    ∙ (mul≈ c.weighted_sum.ensures (refl≈ {a = a.total_inverse})).same
    ∙ sym (sum-made a.zero es a.total_inverse (residues prime ys) beyond)
