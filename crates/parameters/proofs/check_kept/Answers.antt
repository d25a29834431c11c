use mathlib.Core.Path.{sym, ◌∙◌}
use Rattle.fields.specs.Prime.{prime}
use Rattle.fields.proofs.Prime.{positive, prime_field}
use Rattle.refusals.specs.Table.{first_refusal}
use Rattle.parameters.specs.Refusals.{kept_refusals, bad_kept}
use Rattle.parameters.proofs.Diagonal.{with_zero, sum-zero, sum-nonzero}
use Rattle.parameters.proofs.AcceptedSets.{words_of}
use Rattle.parameters.proofs.check_kept.Goals as goal
use Rattle.parameters.proofs.check_kept.Goals.{else-zero_count-eq0-via-then-zero_count-eq0+else-total_inverse-eq0, else-zero_count-eq0-via-else-zero_count-eq0}

pub fits-requires : goal.fits-requires
fits-requires c =
    (c.requires.0, words_of prime c.args.diagonal.now positive c.requires.2, c.requires.3)

pub returns-then-not-fits : goal.returns-then-not-fits
unfolding first_refusal kept_refusals bad_kept
returns-then-not-fits c = simp (sym c.if-bad_diagonal.ensures, sym c.if-not-fits.ensures)

pub returns-then-total_inverse-eq0 : goal.returns-then-total_inverse-eq0
unfolding first_refusal kept_refusals
returns-then-total_inverse-eq0 c =
    let a = c.args in
    simp (sum-zero prime prime_field a.diagonal.now a.inverses.now a.total_inverse (sym c.if-not-fits.ensures) (sym c.requires.0 ∙ c.if-zero_count-eq0.true) c.if-total_inverse-eq0.true)

pub returns : goal.returns
unfolding first_refusal kept_refusals bad_kept
returns c =
    let a = c.args in
    elim c.else-zero_count-eq0.branch [
      | else-zero_count-eq0-via-then-zero_count-eq0+else-total_inverse-eq0 w ↦ simp (sum-nonzero prime prime_field a.diagonal.now a.inverses.now a.total_inverse (sym c.if-not-fits.ensures) (sym c.requires.0 ∙ w.if-zero_count-eq0.true) w.if-total_inverse-eq0.false, sym c.if-not-fits.ensures)
      | else-zero_count-eq0-via-else-zero_count-eq0 w ↦ simp (with_zero prime a.diagonal.now (λ z. w.if-zero_count-eq0.false (c.requires.0 ∙ z)), sym c.if-not-fits.ensures)
    ]
