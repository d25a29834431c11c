use mathlib.Core.Path.{◌≡◌, ap, subst, ◌∙◌}
use mathlib.Core.List.{[]}
use Prim.Native.Nat.{ℕ}
use native.Mathlib.Omega.{arith}
use Rattle.blocks.specs.Blocks.{flat}
use Rattle.inversion.proofs.Written.{Written, written_none, written_all}
use Rattle.inversion.proofs.Flat.{written_block}
use Rattle.inversion.proofs.external.write_blocks.Goals as goal

pub loop-i-init : goal.loop-i-init
loop-i-init g c = subst (λ (t : ℕ). Written t 0 [] c.args.state.now) c.requires (written_none c.args.state.now)

pub loop-i-preserved : goal.loop-i-preserved
loop-i-preserved g c =
    written_block c.args.x c.write_block.new.state c.loop-i.invariant (omega arith) c.write_block.ensures

pub returns : goal.returns
returns g c =
    let all : c.loop-i.i ≡ g.row.B = omega arith in
    written_all c.loop-i.invariant (omega arith) ∙ ap (λ (k : ℕ). flat k c.args.x) all
