use mathlib.Core.Path.{◌≡◌, sym, ap, ◌∙◌}
use native.Mathlib.Omega.{arith}
use lib.ListN.{length}
use borrow.Author.Rules.{rules}
use lib.Dec.{lit<}
use Rattle.kept.specs.Kept.{padded}
use Rattle.parameters.specs.ParameterSet.{used_diagonal, used_constants, used_inverses, with_height}
use Rattle.parameters.proofs.Accepted.{count_fits}
use Rattle.parameters.proofs.AcceptedSets as sets
use Rattle.parameters.proofs.Heightened.{five, none_left, places_of, used_few}
use Rattle.parameters.proofs.Answers.{refused_is, accepted_is}
use Rattle.parameters.proofs.with_height.Goals as goal

pub nonzero_div-set : goal.nonzero_div-set
nonzero_div-set c = omega (arith, (sets.numbers c.args.set c.requires).node_size.positive)

pub returns-then-bad_height : goal.returns-then-bad_height
unfolding with_height
returns-then-bad_height c =
    refused_is _ _ _ _ _ _ _ _ 5 (five c.args.set c.requires c.args.other (sym c.if-bad_height.ensures)) (λ z. absurd (omega (arith, z)))

pub used_diagonal-requires : goal.used_diagonal-requires
used_diagonal-requires c = sets.width_few c.args.set c.requires

pub used_constants-requires : goal.used_constants-requires
used_constants-requires c = count_fits _ _ _ _ _ (sets.numbers c.args.set c.requires)

pub used_inverses-requires : goal.used_inverses-requires
used_inverses-requires c = sets.width_few c.args.set c.requires

pub hold-requires : goal.hold-requires
unfolding used_diagonal
hold-requires c = (lit< tt, used_few _ _ _ (sets.width_few c.args.set c.requires) c.used_diagonal.ensures)

pub hold-requires-2 : goal.hold-requires-2
unfolding used_constants
hold-requires-2 c = (lit< tt, used_few _ _ _ (count_fits _ _ _ _ _ (sets.numbers c.args.set c.requires)) c.used_constants.ensures)

pub hold-requires-3 : goal.hold-requires-3
unfolding used_inverses
hold-requires-3 c = (lit< tt, used_few _ _ _ (sets.width_few c.args.set c.requires) c.used_inverses.ensures)

pub returns : goal.returns
unfolding with_height
returns c =
    let h = c.args.other in
    let long : length c.args.set.diagonal ≡ 12 = search rules in
    let many : length c.args.set.constants ≡ 208 = search rules in
    let P = places_of c.args.set c.requires long many in
    accepted_is _ _ _ _ _ _ _ _ _
    (P.set h (c.hold.ensures ∙ ap (padded 12) c.used_diagonal.ensures) (c.hold-2.ensures ∙ ap (padded 208) c.used_constants.ensures) (c.hold-3.ensures ∙ ap (padded 12) c.used_inverses.ensures))
    (none_left c.args.set c.requires h P.diagonal P.constants (sym c.if-bad_height.ensures))
