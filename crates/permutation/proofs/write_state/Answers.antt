use Rattle.std.proofs.Common.{◌≡◌, ℕ, ◌*◌, [], List, get_or, refl, ap, ◌∙◌, arith}
use Rattle.std.proofs.Math.Seq.{paste, paste-zero}
use Rattle.blocks.specs.Blocks.{four, flat}
use Rattle.blocks.proofs.Slices.{block_more, state_written}
use Rattle.permutation.proofs.write_state.Goals as goal

pub loop-i-init : goal.loop-i-init
loop-i-init g c = (refl, paste-zero c.args.list.now 0 (flat g.row.B c.args.s))

pub loop-i-preserved : goal.loop-i-preserved
loop-i-preserved g c =
    let s = c.args.s in
    let i = c.loop-i.i in (
      c.write_block.auto.list ∙ c.loop-i.invariant.0,
      c.write_block.ensures ∙ ap (λ (ys : List ℕ). paste ys (4 * i) (four (get_or s i [])) 4) c.loop-i.invariant.1
          ∙ block_more g.row.B s c.args.list.now i c.loop-i-test.true c.requires,
    )

pub returns : goal.returns
returns g c =
    let e : c.loop-i.i ≡ g.row.B = omega arith in
    c.loop-i.invariant.1 ∙ ap (λ (n : ℕ). paste c.args.list.now 0 (flat g.row.B c.args.s) (4 * n)) e ∙ state_written g.row.B c.args.s c.args.list.now c.requires
