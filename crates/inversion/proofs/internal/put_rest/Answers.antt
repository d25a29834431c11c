use mathlib.Core.Path.{◌≡◌, sym, ap, ◌∙◌}
use Prim.Native.Nat.{ℕ, ◌%◌, ◌≤◌}
use native.Mathlib.Nat.{mod-eq_of_lt}
use native.Mathlib.Omega.{arith}
use lib.ListN.{length, set}
use lib.Seq.{set_out}
use Rattle.modular.specs.Arithmetic.{sub}
use Rattle.fields.specs.Prime.{prime}
use Rattle.fields.proofs.Prime.{positive}
use Rattle.poseidon2.specs.Layers.{sum}
use Rattle.poseidon2.specs.Residues.{residues}
use Rattle.poseidon2.proofs.Words.{below, residues_length}
use Rattle.inversion.proofs.Words.{sub_word}
use Rattle.inversion.proofs.Residues.{set-residues}
use Rattle.inversion.proofs.Kept.{sub-sum}
use Rattle.inversion.proofs.internal.put_rest.Goals as goal

-- beyond the numbers nothing is put
pub returns-then-state-zero : goal.returns-then-state-zero
returns-then-state-zero c =
    let a = c.args in
    let beyond : length (residues prime a.state.now) ≤ a.zero = omega (arith, c.if-state-zero.true, residues_length prime a.state.now) in
    sym (set_out (residues prime a.state.now) a.zero _ beyond)

pub returns : goal.returns
returns c =
    let a = c.args in
    let ys = residues prime a.state.now in
    let left : c.difference.result ≡ sub prime a.s c.sum_of-others.result = c.difference.ensures in
    set-residues prime a.state.now a.zero c.difference.result
    ∙ ap (set ys a.zero) (ap (λ (n : ℕ). n % prime) (left ∙ sub-sum a.s c.sum_of-others.result ys c.sum_of-others.ensures) ∙ mod-eq_of_lt (sub_word a.s (sum ys)))

pub difference-requires : goal.difference-requires
difference-requires c =
    (c.requires.0, rw c.sum_of-others.ensures (below positive _))

pub bounds-state-zero : goal.bounds-state-zero
bounds-state-zero c = omega (arith, c.if-state-zero.false)
