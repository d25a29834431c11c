-- Refusals 8 and 9 turn down exactly the D's whose M_I has no inverse.
use mathlib.Core.Path.{◌≡◌, refl, sym, subst, ◌∙◌}
use mathlib.Core.Logic.{◌≢◌, inl, ⊎_elim}
use mathlib.Core.Bool.{Bool, true, false, not, ◌&&◌}
use mathlib.Core.List.{List, [], ◌∷◌, ◌++◌}
use Prim.Native.Nat.{ℕ, ◌+◌, ◌%◌, ◌<◌, ◌≤◌}
use native.Mathlib.Decide.{ℕ_discrete}
use native.Mathlib.Omega.{arith}
use lib.Dec.{eqb, lit≤}
use lib.ListN.{length}
use borrow.Author.Tests.{eqb-true, ltb-true, not-false}
use Rattle.modular.specs.Arithmetic.{all_words}
use Rattle.modular.specs.PrimeField.{PrimeField}
use Rattle.modular.proofs.Words.{left_true, right_true}
use Rattle.refusals.specs.Table.{Refusal, refusal, first_refusal}
use Rattle.refusals.proofs.Table.{Numbered, UpTo, up_none, up_next, first_up_to, first_front, first_back, refusal_none, refusal_applies, refusal_passes}
use Rattle.poseidon2.specs.Layers.{sum, internal}
use Rattle.poseidon2.specs.Inverse.{inverses, zeros, uninternal}
use Rattle.poseidon2.specs.Statements.{State, Undo, Merges}
use Rattle.poseidon2.proofs.Undo.{not_undone}
use Rattle.poseidon2.proofs.Rounds.{claims}
use Rattle.parameters.specs.Refusals.{several_zeros, bad_diagonal, bad_kept, number_refusals, shape_refusals, diagonal_refusals, list_refusals, used_refusals}
use Rattle.parameters.specs.ParameterSet.{held_refusals}
use Rattle.parameters.specs.Statements.{Exactly, Decides, DiagonalClaims}
use Rattle.parameters.proofs.Accepted.{diagonal_of, numbers_numbered, lists_numbered, shape_numbered, shape_first, shape_of}
use Rattle.parameters.proofs.AcceptedSets.{state_of, accepted_diagonal}

numbers_up_to : (t l h rf rp : ℕ) → UpTo 7 (number_refusals t l h rf rp)
unfolding number_refusals
numbers_up_to t l h rf rp = up_next (lit≤ tt) (up_next (lit≤ tt) (up_next (lit≤ tt) (up_next (lit≤ tt) (up_next (lit≤ tt) up_none))))

shape_up_to : (t l h rf rp : ℕ) (D C : List ℕ) → UpTo 7 (shape_refusals t l h rf rp D C)
unfolding shape_refusals number_refusals
shape_up_to t l h rf rp D C =
    up_next (lit≤ tt) (up_next (lit≤ tt) (up_next (lit≤ tt) (up_next (lit≤ tt) (up_next (lit≤ tt) (up_next (lit≤ tt) up_none)))))

lists_up_to : (p : ℕ) (D C : List ℕ) → UpTo 9 (refusal 7 (not (all_words p D && all_words p C)) ∷ diagonal_refusals p D)
unfolding diagonal_refusals
lists_up_to p D C = up_next (lit≤ tt) (up_next (lit≤ tt) (up_next (lit≤ tt) up_none))

module _ (p : ℕ) (F : PrimeField p) where
  positive : 0 < p
  positive = omega (arith, F.fermat.above)

  module _ (t : ℕ) (D : List ℕ) (S : State p t D) where
    accepted : first_refusal (diagonal_refusals p D) ≡ 0 → Undo p t (internal p D) (uninternal p D)
    accepted e =
        let r = diagonal_of p D e in
        (claims p F).invertible.internal_layer t D (accepted_diagonal p t D S r.0 r.1)

    refused : first_refusal (diagonal_refusals p D) ≢ 0 → Merges p t (internal p D)
    unfolding first_refusal diagonal_refusals several_zeros bad_diagonal
    refused o = of (several_zeros D) (bad_diagonal p D) refl refl
      where
        of : (a b : Bool) → several_zeros D ≡ a → bad_diagonal p D ≡ b → Merges p t (internal p D)
        of true b e f = (claims p F).singular.several_zeros t D S (ltb-true 1 (zeros D) e)
        of false true e f =
            let none = left_true (eqb (zeros D) 0) (eqb ((1 + sum (inverses p D)) % p) 0) f in
            let nought = right_true (eqb (zeros D) 0) (eqb ((1 + sum (inverses p D)) % p) 0) f in
            (claims p F).singular.sum_zero t D S (eqb-true (zeros D) 0 none) (eqb-true ((1 + sum (inverses p D)) % p) 0 nought)
        of false false e f =
            absurd (o (refusal_passes 8 (several_zeros D) (refusal 9 (bad_diagonal p D) ∷ []) e ∙ refusal_passes 9 (bad_diagonal p D) [] f))

    undone : (g : List ℕ → List ℕ) → Undo p t (internal p D) g → first_refusal (diagonal_refusals p D) ≡ 0
    undone g u = of (ℕ_discrete (first_refusal (diagonal_refusals p D)) 0)
      where
        of : Dec (first_refusal (diagonal_refusals p D) ≡ 0) → first_refusal (diagonal_refusals p D) ≡ 0
        of (yes e) = e
        of (no o) = absurd (not_undone (refused o) u)

  exactly : (t : ℕ) (D : List ℕ) → State p t D → Exactly p t D
  exactly t D S = record { accepted = accepted t D S; refused = refused t D S; undone = undone t D S }

  -- after 7, which leaves words
  by_lists : (t : ℕ) (D C : List ℕ) → length D ≡ t → Decides p t D (first_refusal (list_refusals p D C))
  unfolding list_refusals
  by_lists t D C l = record {
    accepted = λ e. ⊎_elim yes_to (λ h. absurd (omega (arith, first_up_to (lists_up_to p D C)))) e;
    refused = λ h few. no_to (not words) refl h;
  }
    where
      words : Bool
      words = all_words p D && all_words p C

      state : words ≡ true → State p t D
      state w = state_of p t D positive l (left_true (all_words p D) (all_words p C) w)

      yes_to : first_refusal (refusal 7 (not words) ∷ diagonal_refusals p D) ≡ 0 → Undo p t (internal p D) (uninternal p D)
      yes_to e =
          let r = refusal_none 6 (not words) (diagonal_refusals p D) e in
          accepted t D (state (not-false words r.0)) r.1

      no_to : (b : Bool) → not words ≡ b → 7 < first_refusal (refusal 7 (not words) ∷ diagonal_refusals p D) → Merges p t (internal p D)
      no_to true e h = absurd (omega (arith, refusal_applies 7 (not words) (diagonal_refusals p D) e))
      no_to false e h =
          refused t D (state (not-false words e)) (λ z. absurd (omega (arith, refusal_passes 7 (not words) (diagonal_refusals p D) e)))

  -- and before 18, which says nothing of M_I
  by_used : (t : ℕ) (D C es : List ℕ) (k : ℕ) → length D ≡ t → Decides p t D (first_refusal (used_refusals p D C es k))
  unfolding first_refusal used_refusals
  by_used t D C es k l = of (ℕ_discrete (first_refusal (list_refusals p D C)) 0)
    where
      last : List Refusal
      last = refusal 18 (bad_kept p D es k) ∷ []

      -- none of the others: 0 or 18 is left
      alone : (b : Bool) → bad_kept p D es k ≡ b → first_refusal last ≤ 9 → first_refusal last ≡ 0
      alone true e h = absurd (omega (arith, refusal_applies 18 (bad_kept p D es k) [] e))
      alone false e h = refusal_passes 18 (bad_kept p D es k) [] e

      of : Dec (first_refusal (list_refusals p D C) ≡ 0) → Decides p t D (first_refusal (list_refusals p D C ++ last))
      of (yes e) = record {
        accepted = λ h. (by_lists t D C l).accepted (inl e);
        refused = λ h few.
            absurd (omega (arith, first_back (list_refusals p D C) last (lists_numbered p D C) e, alone (bad_kept p D es k) refl (subst (λ (n : ℕ). n ≤ 9) (first_back (list_refusals p D C) last (lists_numbered p D C) e) few)));
      }
      of (no o) = subst (Decides p t D) (sym (first_front (list_refusals p D C) last o)) (by_lists t D C l)

  -- after refusals of numbers up to 7
  after_front : (t : ℕ) (D : List ℕ) (front more : List Refusal) → Numbered front → UpTo 7 front
      → (first_refusal front ≡ 0 → Decides p t D (first_refusal more)) → Decides p t D (first_refusal (front ++ more))
  after_front t D front more N U rest = of (ℕ_discrete (first_refusal front) 0)
    where
      of : Dec (first_refusal front ≡ 0) → Decides p t D (first_refusal (front ++ more))
      of (yes e) = subst (Decides p t D) (sym (first_back front more N e)) (rest e)
      of (no o) = record {
        accepted = λ e. ⊎_elim (λ z. absurd (o (sym (first_front front more o) ∙ z))) (λ h. absurd (omega (arith, first_front front more o, first_up_to U))) e;
        refused = λ h few. absurd (omega (arith, first_front front more o, first_up_to U));
      }

  pub diagonal_claims : DiagonalClaims p F
  unfolding held_refusals
  diagonal_claims = record {
    rows = exactly;
    validation = λ t l h rf rp D C.
        subst (λ (rs : List Refusal). Decides p t D (first_refusal rs)) (sym (shape_first p t l h rf rp D C))
        (after_front t D (shape_refusals t l h rf rp D C) (list_refusals p D C) (shape_numbered t l h rf rp D C) (shape_up_to t l h rf rp D C)
        (λ e. by_lists t D C (shape_of t l h rf rp D C e).diagonal));
    sets = λ t l h rf rp D C es k long.
        after_front t D (number_refusals t l h rf rp) (used_refusals p D C es k) (numbers_numbered t l h rf rp) (numbers_up_to t l h rf rp)
        (λ e. by_used t D C es k long);
  }
