use mathlib.Core.Path.{sym, ap, ◌∙◌}
use Prim.Native.Nat.{ℕ, ◌%◌}
use native.Mathlib.Nat.{add-zero, mod-eq_of_lt}
use Rattle.fields.specs.Prime.{prime}
use Rattle.poseidon2.specs.Layers.{sum}
use Rattle.kept.proofs.Sums.{sum_more}
use Rattle.kept.proofs.sum_from.Goals as goal

pub loop-word-init : goal.loop-word-init
unfolding sum
loop-word-init c = sym (ap (λ (n : ℕ). n % prime) (add-zero c.args.start) ∙ mod-eq_of_lt c.requires.0)

pub loop-word-preserved : goal.loop-word-preserved
loop-word-preserved c =
    c.sum-total.ensures ∙ sum_more prime c.args.start c.loop-word.word-index c.loop-word.total c.args.words.now c.loop-word.invariant
