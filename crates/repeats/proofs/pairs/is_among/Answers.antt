use mathlib.Core.Path.{refl, ap, ◌∙◌}
use lib.Dec.{eqb}
use Rattle.std.specs.List.{list_any}
use Rattle.repeats.proofs.Members.{four_a_turn}
use Rattle.repeats.proofs.pairs.is_among.Goals as goal

pub returns-then-is_in_fours : goal.returns-then-is_in_fours
returns-then-is_in_fours c =
    let e = c.is_in_fours.ensures ∙ ap (list_any (list_any (λ y. eqb y c.args.number))) c.as_chunks.ensures.front in
    c.if-is_in_fours.true ∙ rw c.if-is_in_fours.true at (four_a_turn c.args.number c.args.numbers.now e refl)

pub returns-else-is_in_fours : goal.returns-else-is_in_fours
returns-else-is_in_fours c =
    let e = c.is_in_fours.ensures ∙ ap (list_any (list_any (λ y. eqb y c.args.number))) c.as_chunks.ensures.front in
    let f = c.contains.ensures.value ∙ ap (list_any (λ y. eqb y c.args.number)) c.as_chunks.ensures.back in
    rw c.if-is_in_fours.false at (four_a_turn c.args.number c.args.numbers.now e f)
