use mathlib.Core.Path.{◌≡◌, refl, ap, ◌∙◌}
use Prim.Native.Nat.{ℕ}
use native.Mathlib.Omega.{arith}
use lib.ListN.{length, get_or, length-set}
use Rattle.modular.specs.Arithmetic.{sub, mul}
use Rattle.fields.specs.Prime.{prime}
use Rattle.poseidon2.specs.Residues.{residues}
use Rattle.poseidon2.proofs.Words.{residues_length}
use Rattle.inversion.proofs.Placewise.{done, done_none, lazy_more, done_multiples}
use Rattle.inversion.proofs.internal.multiples_less.Goals as goal

pub loop-i-init : goal.loop-i-init
loop-i-init c = (refl, done_none _ _)

pub loop-i-preserved : goal.loop-i-preserved
loop-i-preserved c =
    let l = c.loop-i in
    let es = c.args.inverses.now in (
      simp length-set l.invariant.0,
      lazy_more prime (λ k y. mul prime (get_or es k 0) (sub prime y c.args.s)) l.i c.args.state.now l.state c.multiple_less.result l.invariant.1 (omega arith)
          c.multiple_less.ensures,
    )

pub returns : goal.returns
returns c =
    let es = c.args.inverses.now in
    let xs = c.args.state.now in
    let e : c.loop-i.i ≡ length (residues prime xs) = omega (arith, residues_length prime xs) in
    c.loop-i.invariant.1 ∙ ap (λ (n : ℕ). done (λ k y. mul prime (get_or es k 0) (sub prime y c.args.s)) n (residues prime xs)) e ∙ done_multiples prime c.args.s es (residues prime xs)
