use mathlib.Core.Path.{sym, ap, ◌∙◌}
use borrow.Author.Tests.{eq-eqb, ne_eqb}
use Rattle.refusals.proofs.Answers.{front_returned}
use Rattle.parameters.proofs.Accepted.{set-numbered}
use Prim.Native.Nat.{ℕ, ◌-◌}
use lib.ListN.{length, drop}
use Rattle.modular.specs.Arithmetic.{all_words}
use Rattle.merkle.specs.Levels.{root}
use Rattle.tree_entries.specs.Trees.{root_refusals}
use Rattle.trees.proofs.SetTrees as tree_of
use Rattle.refusals.proofs.LengthsAndWords.{at_10, at_12, at_none, first_bad, second_bad, both_good}
use Rattle.tree_entries.proofs.building.check_root.Goals as goal

pub returns-in_err-check : goal.returns-in_err-check
unfolding root_refusals
returns-in_err-check c = front_returned _ _ _ _ c.from_residual.ensures.1 c.in_err-check.ensures

pub returns-then-store-store_words : goal.returns-then-store-store_words
unfolding root_refusals
returns-then-store-store_words c =
    sym (at_10 _ _ (set-numbered _) _ _ (sym c.in_ok-check.ensures) (first_bad _ _ (ne_eqb _ _ (λ z. c.if-store-store_words.true (z ∙ sym c.store_words.ensures)))))

pub returns-then-node-set : goal.returns-then-node-set
unfolding root_refusals
returns-then-node-set c =
    sym (at_10 _ _ (set-numbered _) _ _ (sym c.in_ok-check.ensures) (second_bad _ _ (eq-eqb _ _ (c.if-store-store_words.false ∙ c.store_words.ensures)) (ne_eqb _ _ c.if-node-set.true)))

pub ends_in_words-requires : goal.ends_in_words-requires
ends_in_words-requires c =
    rw (c.if-node-set.false, c.if-store-store_words.false, c.store_words.ensures) (tree_of.node_in_store _ (sym c.in_ok-check.ensures))

pub returns-then-not-ends_in_words : goal.returns-then-not-ends_in_words
unfolding root_refusals root
returns-then-not-ends_in_words c =
    sym (at_12 _ _ (set-numbered _) _ _ (sym c.in_ok-check.ensures) (both_good _ _ (eq-eqb _ _ (c.if-store-store_words.false ∙ c.store_words.ensures)) (eq-eqb _ _ c.if-node-set.false))
    (sym (c.ends_in_words.ensures ∙ ap (λ (l : ℕ). all_words _ (drop (length c.args.store.now - l) c.args.store.now)) c.if-node-set.false) ∙ c.if-not-ends_in_words.true))

pub returns : goal.returns
unfolding root_refusals root
returns c =
    sym (at_none _ _ (set-numbered _) _ _ (sym c.in_ok-check.ensures) (both_good _ _ (eq-eqb _ _ (c.if-store-store_words.false ∙ c.store_words.ensures)) (eq-eqb _ _ c.if-node-set.false))
    (sym (c.ends_in_words.ensures ∙ ap (λ (l : ℕ). all_words _ (drop (length c.args.store.now - l) c.args.store.now)) c.if-node-set.false) ∙ c.if-not-ends_in_words.false))
