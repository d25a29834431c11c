use mathlib.Core.Path.{◌≡◌, ap, ◌∙◌}
use Prim.Native.Nat.{ℕ, ◌%◌}
use native.Mathlib.Omega.{arith}
use lib.ListN.{length}
use Rattle.fields.specs.Prime.{prime}
use Rattle.inversion.proofs.Placewise.{done, done_none, done_more, done_residues}
use Rattle.inversion.proofs.internal.settle.Goals as goal

pub loop-x-init : goal.loop-x-init
loop-x-init c = done_none _ _

pub loop-x-preserved : goal.loop-x-preserved
loop-x-preserved c =
    done_more (λ k y. y % prime) c.loop-x.x-index c.args.state.now c.loop-x.state c.residue.result c.loop-x.invariant (omega arith) c.residue.ensures

pub returns : goal.returns
returns c =
    let xs = c.args.state.now in
    let e : c.loop-x.x-index ≡ length xs = omega arith in
    c.loop-x.invariant ∙ ap (λ (n : ℕ). done (λ k y. y % prime) n xs) e ∙ done_residues prime xs
