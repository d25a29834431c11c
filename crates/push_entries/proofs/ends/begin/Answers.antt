use mathlib.Core.Path.{sym, ap, ◌∙◌}
use Prim.Native.Nat.{◌*◌}
use borrow.Author.Tests.{eq-eqb, ne_eqb, le-leb, lt-leb}
use Rattle.refusals.proofs.Answers.{front_returned}
use Rattle.refusals.proofs.LengthsAndWords.{first_bad, second_bad, both_good}
use Rattle.trees.proofs.SetTrees as tree_of
use Rattle.trees.specs.declared.Dimensions.{Dimensions}
use Rattle.pushes.specs.Passes.{levels_by}
use Rattle.push_entries.specs.Ends.{early_refusals}
use Rattle.push_entries.proofs.Early.{early_ten, early_none, begin_clear}
use Rattle.push_entries.proofs.ends.begin.Goals as goal

pub returns-in_err-check-clause-refused : goal.returns-in_err-check-clause-refused
unfolding early_refusals
returns-in_err-check-clause-refused c = front_returned _ _ _ _ c.from_residual.ensures.1 c.in_err-check.ensures

pub returns-then-store-store_words-clause-refused : goal.returns-then-store-store_words-clause-refused
returns-then-store-store_words-clause-refused c =
    sym (early_ten _ _ _ (sym c.in_ok-check.ensures) (first_bad _ _ (ne_eqb _ _ (λ z. c.if-store-store_words.true (z ∙ sym c.store_words.ensures)))))

pub returns-then-count-gt4294967296-clause-refused : goal.returns-then-count-gt4294967296-clause-refused
returns-then-count-gt4294967296-clause-refused c =
    sym (early_ten _ _ _ (sym c.in_ok-check.ensures) (second_bad _ _ (eq-eqb _ _ (c.if-store-store_words.false ∙ c.store_words.ensures)) (lt-leb _ _ c.if-count-gt4294967296.true)))

pub count-requires : goal.count-requires
count-requires c = rw c.dimensions-d.ensures (tree_of.arity_some _ (sym c.in_ok-check.ensures))

pub returns-clause-refused : goal.returns-clause-refused
returns-clause-refused c =
    sym (early_none _ _ _ (sym c.in_ok-check.ensures) (both_good _ _ (eq-eqb _ _ (c.if-store-store_words.false ∙ c.store_words.ensures)) (le-leb _ _ c.if-count-gt4294967296.false)))

pub returns-clause-begun : goal.returns-clause-begun
returns-clause-begun c =
    let k = ap (λ (x : Dimensions). x.arity) c.dimensions-d.ensures in
    let p = c.places-places.ensures in
    rw c.empty.ensures
    (begin_clear _ _ _ _ _ _ _ p c.all_words.ensures
    (c.count.ensures ∙ (λ i. levels_by (k i) c.args.set.height (p i) (c.args.count * 8))) k
    (early_none _ _ _ (sym c.in_ok-check.ensures) (both_good _ _ (eq-eqb _ _ (c.if-store-store_words.false ∙ c.store_words.ensures)) (le-leb _ _ c.if-count-gt4294967296.false))))
