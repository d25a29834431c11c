use mathlib.Core.Path.{sym, ◌∙◌}
use mathlib.Core.List.{◌++◌}
use Rattle.modular.proofs.Words.{words_append}
use Rattle.refusals.proofs.LengthsPlacesAndWords.{twelve, no_twelve, left_not_words, right_not_words}
use Rattle.tree_entries.proofs.openings.check_words.Goals as goal
use Rattle.tree_entries.proofs.openings.check_words.Goals.{else-all_words-via-else-all_words, else-all_words-via-then-all_words+else-all_words-2, else-all_words-via-then-all_words+then-all_words-2+else-all_words-3}

pub returns-then-all_words-3 : goal.returns-then-all_words-3
returns-then-all_words-3 c =
    sym (no_twelve _ _ (words_append _ _ _ (sym c.all_words.ensures ∙ c.if-all_words.true)
    (words_append _ _ _ (sym c.all_words-then-all_words.ensures ∙ c.if-all_words-2.true) (sym c.all_words-then-all_words-2.ensures ∙ c.if-all_words-3.true))))

pub returns-else-all_words : goal.returns-else-all_words
returns-else-all_words c =
    let a = c.args in
    elim c.else-all_words.branch [
      | else-all_words-via-else-all_words w ↦ sym (twelve _ _ (left_not_words _ _ _ (sym c.all_words.ensures ∙ w.if-all_words.false)))
      | else-all_words-via-then-all_words+else-all_words-2 w ↦ sym (twelve _ _ (right_not_words _ a.root.now (a.leaf.now ++ a.siblings.now) (left_not_words _ a.leaf.now a.siblings.now (sym w.all_words-then-all_words.ensures ∙ w.if-all_words-2.false))))
      | else-all_words-via-then-all_words+then-all_words-2+else-all_words-3 w ↦ sym (twelve _ _ (right_not_words _ a.root.now (a.leaf.now ++ a.siblings.now) (right_not_words _ a.leaf.now a.siblings.now (sym w.all_words-then-all_words-2.ensures ∙ w.if-all_words-3.false))))
    ]
