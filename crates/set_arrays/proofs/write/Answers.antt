use mathlib.Core.Path.{◌≡◌, refl, ◌∙◌}
use borrow.Author.Rules.{rules}
use lib.ListN.{length}
use Rattle.set_arrays.proofs.Begun.{written}
use Rattle.set_arrays.proofs.Statements.{of_list}
use Rattle.set_arrays.proofs.write.Goals as goal

pub returns : goal.returns
returns c =
    let s = c.args.set in
    let D : length s.diagonal ≡ 12 = search rules in
    let C : length s.constants ≡ 208 = search rules in
    let es : length s.inverses ≡ 12 = search rules in
    written c.args.numbers.now _ _ _ _ s.total_inverse c.requires refl D C es c.copy_from_slice.ensures.after c.copy_from_slice-2.ensures.after c.copy_from_slice-3.ensures.after c.copy_from_slice-4.ensures.after
    ∙ of_list s
