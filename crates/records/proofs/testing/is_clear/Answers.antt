use mathlib.Core.Path.{◌≡◌, sym, ◌∙◌}
use mathlib.Core.Bool.{true}
use borrow.Author.Tests.{eq-eqb, eqb-true}
use Rattle.records.specs.Tests.{is_clear}
use Rattle.records.proofs.testing.is_clear.Goals as goal
use Rattle.records.proofs.testing.is_clear.Goals.{then-tally-eq0, else-tally-eq0}

pub returns-then-tally : goal.returns-then-tally
unfolding is_clear
returns-then-tally c =
    let t = c.args.tally in
    elim c.if-tally-eq0.branch [
      | then-tally-eq0 w ↦
          let none : t.number ≡ 0 = w.if-tally-eq0.true in
          let placed : t.placed ≡ true = sym w.value-is ∙ c.if-tally.true in
          rw (eq-eqb t.number 0 none, placed)
      | else-tally-eq0 w ↦ absurd (w.if-tally-eq0.false (eqb-true t.number 0 (sym w.value-is ∙ c.if-tally.true)))
    ]
