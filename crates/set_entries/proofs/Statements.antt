-- The answer by the set's refusals, and the exchanges of a set that validation gave.
use mathlib.Core.Path.{◌≡◌, refl, sym, ap, ap₂, ◌∙◌}
use mathlib.Core.Logic.{◌≢◌}
use mathlib.Core.List.{List}
use Prim.Native.Nat.{ℕ}
use borrow.Author.Tests.{eq-eqb, ne_eqb}
use Rattle.std.specs.Result.{IsErrAnd}
use Rattle.std.proofs.lemmas.Result.{err_from_is_err_and}
use Rattle.refusals.specs.Table.{first_refusal}
use Rattle.refusals.specs.Answers.{Answer, number_of}
use Rattle.refusals.specs.declared.Refusal.{Refusal}
use Rattle.refusals.proofs.Answers.{nonzero}
use Rattle.fields.specs.Prime.{prime}
use Rattle.parameters.specs.ParameterSet.{Validation, held, turned_down, validation_of, validation, with_diagonal, with_height, set_refusals}
use Rattle.parameters.specs.declared.ParameterSet.{ParameterSet}
use Rattle.parameters.proofs.Validated.{is_held, held_taken, held_diagonal, held_constants}
use Rattle.set_entries.specs.Exchange.{judged_first, diagonal_exchanged, height_exchanged}
use Rattle.set_entries.specs.Statements.{OfValidated, Exchanges}

module _ (s : ParameterSet) (v : Validation) where
  set-refused : (n : ℕ) → n ≡ first_refusal (set_refusals s) → n ≢ 0 → turned_down n ≡ judged_first s v
  unfolding judged_first
  set-refused n e o = ap turned_down e ∙ sym (rw (ne_eqb (first_refusal (set_refusals s)) 0 (λ z. o (e ∙ z))) refl)

  -- the exit of a `?`
  pub refused_by : (answer : Answer ParameterSet) (r : Refusal) → IsErrAnd answer (λ e. e ≡ r) → number_of r ≡ first_refusal (set_refusals s) → validation_of answer ≡ judged_first s v
  refused_by answer r e f =
      let given = err_from_is_err_and answer e in
      rw (given.1, given.2) (set-refused (number_of r) f (nonzero r))

  pub set-taken : first_refusal (set_refusals s) ≡ 0 → v ≡ judged_first s v
  unfolding judged_first
  set-taken z = sym (rw (eq-eqb (first_refusal (set_refusals s)) 0 z) refl)

module _ (t l h rf rp : ℕ) (D C : List ℕ) (none : (validation prime t l h rf rp D C).number ≡ 0) where
  abbrev s : ParameterSet
  s = held prime t l h rf rp D C

  by_diagonal : (E : List ℕ) → diagonal_exchanged s E ≡ validation prime t l h rf rp E C
  unfolding diagonal_exchanged with_diagonal held
  by_diagonal E =
      sym (set-taken s (with_diagonal s E) (held_taken t l h rf rp D C none)) ∙ ap (validation prime t l h rf rp E) (held_constants prime t l h rf rp D C none)

  by_height : (i : ℕ) → height_exchanged s i ≡ validation prime t l i rf rp D C
  unfolding height_exchanged with_height held
  by_height i =
      sym (set-taken s (with_height s i) (held_taken t l h rf rp D C none))
      ∙ ap₂ (validation prime t l i rf rp) (held_diagonal prime t l h rf rp D C none) (held_constants prime t l h rf rp D C none)

  pub of_validated : OfValidated t l h rf rp D C
  of_validated =
      let e = is_held prime t l h rf rp D C none in
      record {
        taken = ap (λ (u : ParameterSet). first_refusal (set_refusals u)) e ∙ held_taken t l h rf rp D C none;
        diagonal = λ E. ap (λ (u : ParameterSet). diagonal_exchanged u E) e ∙ by_diagonal E;
        height = λ i. ap (λ (u : ParameterSet). height_exchanged u i) e ∙ by_height i;
      }

pub exchanges : Exchanges
exchanges = record {
  validated = of_validated;
  diagonal_back = λ t l h rf rp D C E n m.
      ap (λ (v : Validation). diagonal_exchanged v.parameters D) ((of_validated t l h rf rp D C n).diagonal E) ∙ (of_validated t l h rf rp E C m).diagonal D;
  height_back = λ t l h i rf rp D C n m.
      ap (λ (v : Validation). height_exchanged v.parameters h) ((of_validated t l h rf rp D C n).height i) ∙ (of_validated t l i rf rp D C m).height h;
}
