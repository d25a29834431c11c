use mathlib.Core.Path.{sym, ◌∙◌}
use Rattle.refusals.proofs.Answers.{nonzero, returned, front_returned}
use Rattle.extraction_entries.specs.Extraction.{pair_of, extract_refusals}
use Rattle.extraction_entries.proofs.AcceptedPairs.{first_passes, second_passes}
use Rattle.extraction_entries.proofs.Verdicts.{opening_accepted, equal_leaves, first_rejected, second_decides}
use Rattle.extraction_entries.proofs.check_extract.Goals as goal

pub returns-in_err-check_pair : goal.returns-in_err-check_pair
unfolding extract_refusals
returns-in_err-check_pair c = front_returned _ _ _ _ c.from_residual.ensures.1 c.in_err-check_pair.ensures

pub returns-then-same_words : goal.returns-then-same_words
returns-then-same_words c = equal_leaves _ (pair_of c.args.two) _ _ (sym c.in_ok-check_pair.ensures) (sym c.same_words.ensures ∙ c.if-same_words.true)

pub check_opening-requires : goal.check_opening-requires
check_opening-requires c = first_passes _ (pair_of c.args.two) _ _ (sym c.in_ok-check_pair.ensures)

pub check_opening-requires-2 : goal.check_opening-requires-2
check_opening-requires-2 c = second_passes _ (pair_of c.args.two) _ _ (sym c.in_ok-check_pair.ensures)

pub returns-in_err-check_opening : goal.returns-in_err-check_opening
returns-in_err-check_opening c =
    returned _ _ c.from_residual-in_err-check_opening.ensures.1
    ∙ first_rejected _ (pair_of c.args.two) _ _ (sym c.in_ok-check_pair.ensures) (sym c.same_words.ensures ∙ c.if-same_words.false) c.in_err-check_opening.ensures (nonzero _)

pub returns : goal.returns
returns c =
    second_decides _ (pair_of c.args.two) _ _ (sym c.in_ok-check_pair.ensures) (sym c.same_words.ensures ∙ c.if-same_words.false)
    (opening_accepted _ c.in_ok-check_opening.ensures) c.check_opening-2.ensures
