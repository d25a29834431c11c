use mathlib.Core.Path.{◌≡◌, sym, ap, ap₂, ◌∙◌}
use mathlib.Core.Logic.{⊎_elim}
use native.Mathlib.Omega.{arith}
use Rattle.std.proofs.Common.{rules}
use Rattle.fields.specs.Prime.{prime}
use Rattle.poseidon2.specs.Inverse.{scaled}
use Rattle.blocks.proofs.Lists.{four_eq}
use Rattle.inversion.proofs.Parts.{part_of, as_part}
use Rattle.inversion.proofs.external.share.Goals as goal
use Rattle.inversion.proofs.external.share.Goals.{then-this-eq2, else-this-eq2}

pub sum_blocks-s-requires : goal.sum_blocks-s-requires
sum_blocks-s-requires g c = (search rules, (⊎_elim (λ h. omega (arith, h)) (λ h. omega (arith, h)) c.requires.0, c.requires.1))

pub returns : goal.returns
unfolding scaled
returns g c =
    let three : (g.row.B ≡ 2 → ⊥) → 3 ≡ g.row.B = λ h. ⊎_elim (λ e. absurd (h e)) (λ e. omega arith) c.requires.0 in
    let k : c.if-this-eq2.part ≡ part_of g.row.B =
    elim c.if-this-eq2.branch [
      | then-this-eq2 w ↦ w.part-is ∙ as_part 2 w.minus_third-part.ensures ∙ ap part_of (sym w.if-this-eq2.true)
      | else-this-eq2 w ↦ w.part-is ∙ as_part 3 w.minus_quarter-part.ensures ∙ ap part_of (three w.if-this-eq2.false)
    ] in
    four_eq c.product.ensures c.product-2.ensures c.product-3.ensures c.product-4.ensures
    ∙ ap₂ (scaled prime) k c.sum_blocks-s.ensures
