use Rattle.std.proofs.Common.{ℕ, ◌+◌, List, set, refl, sym, ap, ap₂, ◌∙◌, add-one, length-set, arith}
use Rattle.std.proofs.Math.Seq.{paste, paste-zero, paste-suc}
use Rattle.blocks.specs.Blocks.{flat}
use Rattle.blocks.proofs.Each.{flat_at, flat_length}
use Rattle.permutation.proofs.write.Goals as goal

pub loop-i-init : goal.loop-i-init
loop-i-init g c = (refl, paste-zero c.args.list.now c.args.at (flat g.row.B c.args.s))

pub loop-i-preserved : goal.loop-i-preserved
loop-i-preserved g c =
    let a = c.args in
    let i = c.loop-i.i in
    let F = flat g.row.B a.s in (
      length-set c.loop-i.list (a.at + i) _ ∙ c.loop-i.invariant.0,
      ap₂ (λ (ys : List ℕ) (x : ℕ). set ys (a.at + i) x) c.loop-i.invariant.1 (sym (flat_at g.row.B a.s i (omega arith)))
          ∙ paste-suc a.list.now a.at F i 0 (omega arith) (omega (arith, flat_length g.row.B a.s)) ∙ ap (paste a.list.now a.at F) (sym (add-one i)),
    )
