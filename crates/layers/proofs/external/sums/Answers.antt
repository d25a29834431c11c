use Rattle.std.proofs.Common.{◌≡◌, ℕ, ◌<◌, [], get_or, sym, ap, subst, ◌∙◌, arith, lit<, lit≤}
use Rattle.modular.specs.Goldilocks.{p}
use Rattle.blocks.specs.Halves.{Within, plus, AllWithin}
use Rattle.blocks.proofs.External.{within_more, plus_within, sums_all, sums_alone}
use Rattle.layers.proofs.external.sums.Goals as goal

pub returns-then-this-eq1 : goal.returns-then-this-eq1
returns-then-this-eq1 g c =
    let one : g.row.B ≡ 1 = c.if-this-eq1.true in
    (rw one (sym (sums_alone p c.args.s)), record { at = λ k h. within_more (lit≤ tt) (c.requires.2.at k h) })

pub returns : goal.returns
returns g c =
    let s = c.args.s in
    let summed = λ (k : ℕ) (h : k < g.row.B). c.loop-i.invariant.at k (omega arith) in
    let within : AllWithin 17179869180 g.row.B c.loop-i.summed = record {
      at = λ k h. subst (Within 17179869180) (sym (summed k h)) (plus_within (c.requires.2.at k h) c.total-sum.ensures.1);
    } in
    (sums_all p g.row.B s c.loop-i.summed (lit< tt) c.if-this-eq1.false (λ k h. summed k h ∙ ap (plus (get_or s k [])) c.total-sum.ensures.0) within, within)
