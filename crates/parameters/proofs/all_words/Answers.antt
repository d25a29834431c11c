use mathlib.Core.Path.{refl, sym, ◌∙◌}
use native.Mathlib.Omega.{arith}
use Rattle.modular.specs.Arithmetic.{all_words}
use Rattle.fields.specs.Prime.{prime}
use Rattle.modular.proofs.Undecided.{decided_rest}
use Rattle.parameters.proofs.Lists.{four_fail, four_pass}
use Rattle.parameters.proofs.all_words.Goals as goal

pub loop-i-init : goal.loop-i-init
loop-i-init c = (omega arith, refl)

pub returns-then-not-four_words : goal.returns-then-not-four_words
returns-then-not-four_words c =
    sym (four_fail prime _ _ c.loop-i.invariant (omega arith) c.order-order.ensures c.four_words.ensures c.if-not-four_words.true)

pub loop-i-preserved : goal.loop-i-preserved
loop-i-preserved c =
    four_pass prime _ _ c.loop-i.invariant (omega arith) c.order-order.ensures c.four_words.ensures c.if-not-four_words.false

pub returns : goal.returns
returns c = c.few_words.ensures ∙ decided_rest (all_words prime) _ _ c.loop-i.invariant

pub overflow_sub-numbers : goal.overflow_sub-numbers
overflow_sub-numbers c = c.loop-i.invariant.0
