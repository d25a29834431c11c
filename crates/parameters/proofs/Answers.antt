-- What validation answers, by the first refusal that applies; and what it answers for a set that is not refused, with another height.
use mathlib.Core.Path.{◌≡◌, refl, sym, ap, ◌∙◌}
use mathlib.Core.Logic.{◌≢◌}
use mathlib.Core.Bool.{cond}
use mathlib.Core.List.{List}
use Prim.Native.Nat.{ℕ}
use lib.Dec.{eqb}
use borrow.Author.Tests.{eq-eqb, ne_eqb}
use Rattle.std.specs.Result.{IsErrAnd}
use Rattle.std.proofs.lemmas.Result.{err_from_is_err_and}
use Rattle.refusals.specs.Table.{first_refusal}
use Rattle.refusals.specs.Answers.{Answer, number_of}
use Rattle.refusals.specs.declared.Refusal.{Refusal}
use Rattle.refusals.proofs.Answers.{nonzero}
use Rattle.refusals.proofs.Table.{first_front, first_back}
use Rattle.kept.specs.Kept.{padded, kept_of}
use Rattle.parameters.specs.Refusals.{shape_refusals, list_refusals, validation_refusals}
use Rattle.parameters.specs.ParameterSet.{held, no_set, turned_down, validation_of, validation}
use Rattle.parameters.specs.declared.ParameterSet.{ParameterSet}
use Rattle.parameters.proofs.Accepted.{shape_numbered, shape_first}

-- a set by what is in its places
pub of_places : (p t l h rf rp : ℕ) (D C : List ℕ) {E F es : List ℕ} {k : ℕ}
    → E ≡ padded 12 D → F ≡ padded 208 C → es ≡ (kept_of p D).inverses → k ≡ (kept_of p D).total_inverse
    → record { width = t; node_size = l; height = h; full_rounds = rf; partial_rounds = rp; diagonal = E; constants = F; inverses = es; total_inverse = k }
    ≡ held p t l h rf rp D C
unfolding held
of_places p t l h rf rp D C e f g j = λ i. record {
  width = t;
  node_size = l;
  height = h;
  full_rounds = rf;
  partial_rounds = rp;
  diagonal = e i;
  constants = f i;
  inverses = g i;
  total_inverse = j i;
}

module _ (p t l h rf rp : ℕ) (D C : List ℕ) where
  abbrev shape : ℕ
  shape = first_refusal (shape_refusals t l h rf rp D C)

  abbrev lists : ℕ
  lists = first_refusal (list_refusals p D C)

  abbrev all : ℕ
  all = first_refusal (validation_refusals p t l h rf rp D C)

  pub refused_is : (n : ℕ) → n ≡ all → n ≢ 0 → turned_down n ≡ validation p t l h rf rp D C
  unfolding turned_down validation
  refused_is n e o =
      let f : no_set ≡ cond (eqb all 0) (held p t l h rf rp D C) no_set = rw (ne_eqb all 0 (λ z. o (e ∙ z))) refl in
      λ i. record { number = e i; parameters = f i }

  pub accepted_is : (s : ParameterSet) → s ≡ held p t l h rf rp D C → all ≡ 0 → record { number = 0; parameters = s } ≡ validation p t l h rf rp D C
  unfolding validation
  accepted_is s e z =
      let f : s ≡ cond (eqb all 0) (held p t l h rf rp D C) no_set = e ∙ rw (eq-eqb all 0 z) refl in
      λ i. record { number = sym z i; parameters = f i }

  -- the exit of a `?`
  pub refused_by : (answer : Answer ParameterSet) (r : Refusal) → IsErrAnd answer (λ e. e ≡ r) → number_of r ≡ all → validation_of answer ≡ validation p t l h rf rp D C
  refused_by answer r e f =
      let given = err_from_is_err_and answer e in
      rw (given.1, given.2) (refused_is (number_of r) f (nonzero r))

  -- by the shape first, then by the lists
  pub by_shape : (n : ℕ) → n ≡ shape → n ≢ 0 → n ≡ all
  by_shape n e o =
      e ∙ sym (ap first_refusal (shape_first p t l h rf rp D C) ∙ first_front (shape_refusals t l h rf rp D C) (list_refusals p D C) (λ z. o (e ∙ z)))

  pub by_lists : shape ≡ 0 → lists ≡ all
  by_lists z =
      sym (ap first_refusal (shape_first p t l h rf rp D C)
      ∙ first_back (shape_refusals t l h rf rp D C) (list_refusals p D C) (shape_numbered t l h rf rp D C) z)
