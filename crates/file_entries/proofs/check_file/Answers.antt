use mathlib.Core.Path.{sym}
use native.Mathlib.Omega.{arith}
use borrow.Author.Tests.{eq-eqb, ne_eqb}
use Rattle.refusals.proofs.Answers.{front_returned}
use Rattle.file_entries.specs.Files.{file_refusals}
use Rattle.file_entries.proofs.AcceptedFiles.{at_10, at_16, at_none, too_long_lem, not_too_long}
use Rattle.file_entries.proofs.check_file.Goals as goal

pub returns-in_err-check : goal.returns-in_err-check
unfolding file_refusals
returns-in_err-check c = front_returned _ _ _ _ c.from_residual.ensures.1 c.in_err-check.ensures

pub returns-then-leaf-set : goal.returns-then-leaf-set
returns-then-leaf-set c =
    sym (at_10 _ _ _ (sym c.in_ok-check.ensures) (ne_eqb _ _ c.if-leaf-set.true))

pub returns-then-contents-gt4294967295 : goal.returns-then-contents-gt4294967295
returns-then-contents-gt4294967295 c =
    sym (at_16 _ _ _ (sym c.in_ok-check.ensures) (eq-eqb _ _ c.if-leaf-set.false) (too_long_lem c.args.contents.now (omega (arith, c.if-contents-gt4294967295.true))))

pub returns : goal.returns
returns c =
    sym (at_none _ _ _ (sym c.in_ok-check.ensures) (eq-eqb _ _ c.if-leaf-set.false) (not_too_long _ c.if-contents-gt4294967295.false))
