use Rattle.std.proofs.Common.{arith, [], sym, ◌∙◌}
use Rattle.modular.proofs.Words.{none_words, word_first, not_word_first}
use Rattle.fields.specs.Prime.{prime}
use Rattle.refusals.proofs.LengthsPlacesAndWords.{twelve, no_twelve}
use Rattle.field_entries.proofs.check_word.Goals as goal

pub returns-then-order-x : goal.returns-then-order-x
returns-then-order-x c = sym (twelve _ _ (not_word_first prime c.args.x [] (omega arith)))

pub returns : goal.returns
returns c = sym (no_twelve _ _ (word_first prime c.args.x [] (omega arith) ∙ none_words prime))
