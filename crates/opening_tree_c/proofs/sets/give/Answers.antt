use mathlib.Core.Path.{◌≡◌, refl}
use mathlib.Core.List.{List}
use Prim.Native.Nat.{ℕ}
use borrow.Author.Tests.{ne_eqb}
use Rattle.std.specs.Prelude.{Ok, Err}
use Rattle.refusals.specs.Answers.{number_of, Answer}
use Rattle.refusals.specs.declared.Refusal.{Refusal}
use Rattle.refusals.proofs.Answers.{nonzero}
use Rattle.parameters.specs.declared.ParameterSet.{ParameterSet}
use Rattle.parameters.specs.ParameterSet.{turned_down, validation_of}
use Rattle.set_arrays.specs.Arrays.{array_of}
use Rattle.opening_tree_c.specs.Exports.{array_after}
use Rattle.opening_tree_c.proofs.sets.give.Goals as goal

written : (a : Answer ParameterSet) (s : ParameterSet) (old : List ℕ) {xs : List ℕ} → a ≡ Ok s → xs ≡ array_of s
    → (0 ≡ (validation_of a).number) × (xs ≡ array_after (validation_of a) old)
unfolding array_after
written a s old e f = rw e (refl, f)

stays : (a : Answer ParameterSet) (r : Refusal) (old : List ℕ) {n : ℕ} → a ≡ Err r → n ≡ number_of r
    → (n ≡ (validation_of a).number) × (old ≡ array_after (validation_of a) old)
unfolding array_after turned_down
stays a r old e f = rw e (f, rw (ne_eqb (number_of r) 0 (nonzero r)))

pub returns-in-Ok : goal.returns-in-Ok
returns-in-Ok c = written _ _ _ c.in-Ok.is c.write.ensures

pub returns-in-Err : goal.returns-in-Err
returns-in-Err c = stays _ _ _ c.in-Err.is c.number.ensures
