-- Equal leaves come before openings that are not accepted: which replies this changed.
use mathlib.Core.Path.{◌≡◌, refl, sym, ap, ◌∙◌}
use mathlib.Core.Logic.{◌≢◌, ◌⊎◌, inl, inr, ⊎_elim}
use mathlib.Core.Bool.{Bool, true, false, not}
use mathlib.Core.List.{List, [], ◌∷◌}
use Prim.Native.Nat.{ℕ, zero, suc}
use native.Mathlib.Omega.{arith}
use Rattle.refusals.specs.Table.{Refusal, first_refusal, Reply, refused, done, reply, after}
use Rattle.refusals.proofs.Table.{refusal_applies, kept_after}
use Rattle.refusals.proofs.Order.{front_refuses, behind_refuses, exchanged}
use Rattle.parameters.specs.declared.ParameterSet.{ParameterSet}
use Rattle.merkle.specs.Lists.{same}
use Rattle.merkle.proofs.Lists.{same_true, same_refl}
use Rattle.extraction_entries.specs.Extraction.{Pair, pair_refusals, both_accepted, extract_refusals, collision, level_of, first_of, second_of, extract_reply, extracted_first, extracted_second}
use Rattle.extraction_entries.specs.Statements.{former_refusals, EqualAndRejected, Reordered, EqualLeavesFirst}
use Rattle.extraction_entries.proofs.AcceptedPairs.{pair_numbered}

-- the number of a refusal, which tells one from another
abbrev number : Reply → ℕ
number (refused n) = n
number (done result) = 0

module _ (s : ParameterSet) (two : Pair) (first second : List ℕ) where
  open two use {first_leaf as a, second_leaf as b}

  abbrev front : List Refusal
  front = pair_refusals s two first second

  abbrev result : List ℕ
  result = level_of (collision s two) ∷ []

  -- the reply before, and now
  abbrev former : Reply
  former = reply (former_refusals s two first second) result

  abbrev current : Reply
  current = extract_reply s two first second

  fourteen : EqualAndRejected s two first second → former ≡ refused 14
  fourteen E =
      behind_refuses result front _ (pair_numbered s two first second) E.passed 14 (refusal_applies 14 (not (both_accepted s two)) _ (ap not E.rejected)) (λ z. absurd (omega (arith, z)))

  fifteen : EqualAndRejected s two first second → current ≡ refused 15
  unfolding extract_reply extract_refusals
  fifteen E =
      behind_refuses result front _ (pair_numbered s two first second) E.passed 15 (refusal_applies 15 (same a b) _ (ap (same a) (sym E.equal) ∙ same_refl a)) (λ z. absurd (omega (arith, z)))

  -- what is not such a pair has the same reply: a refusal in front gives it, or one of 14 and 15 does not apply
  unmoved_front : first_refusal front ≢ 0 → former ≡ current
  unfolding extract_reply extract_refusals
  unmoved_front o = front_refuses result front _ o ∙ sym (front_refuses result front _ o)

  unmoved_accepted : both_accepted s two ≡ true → former ≡ current
  unfolding extract_reply extract_refusals
  unmoved_accepted e = exchanged result front 14 15 (not (both_accepted s two)) (same a b) (ap not e)

  unmoved_apart : same a b ≡ false → former ≡ current
  unfolding extract_reply extract_refusals
  unmoved_apart e = sym (exchanged result front 15 14 (same a b) (not (both_accepted s two)) e)

  unmoved_or : (former ≡ current) ⊎ EqualAndRejected s two first second
  unmoved_or = by_front (first_refusal front) refl
    where
      by_both : first_refusal front ≡ 0 → same a b ≡ true → (y : Bool) → both_accepted s two ≡ y → (former ≡ current) ⊎ EqualAndRejected s two first second
      by_both z e true f = inl (unmoved_accepted f)
      by_both z e false f = inr (record { passed = z; equal = same_true a b e; rejected = f })

      by_leaves : first_refusal front ≡ 0 → (x : Bool) → same a b ≡ x → (former ≡ current) ⊎ EqualAndRejected s two first second
      by_leaves z true e = by_both z e (both_accepted s two) refl
      by_leaves z false e = inl (unmoved_apart e)

      by_front : (n : ℕ) → first_refusal front ≡ n → (former ≡ current) ⊎ EqualAndRejected s two first second
      by_front zero z = by_leaves z (same a b) refl
      by_front (suc n) e = inl (unmoved_front (λ z. absurd (omega (arith, e, z))))

  -- a buffer after either: after 14 as after 15 it is as it was
  held : (old new : List ℕ) → after former old new ≡ after current old new
  held old new =
      ⊎_elim (λ (e : former ≡ current). ap (λ (r : Reply). after r old new) e)
      (λ (E : EqualAndRejected s two first second). sym (kept_after old new (fourteen E)) ∙ kept_after old new (fifteen E)) unmoved_or

  reordered : Reordered s two first second former
  unfolding extracted_first extracted_second
  reordered = record {
    precisely = (
      λ (o : former ≢ current). ⊎_elim (λ (e : former ≡ current). absurd (o e)) (λ (E : EqualAndRejected s two first second). E) unmoved_or,
      λ (E : EqualAndRejected s two first second) (e : former ≡ current). absurd (omega (arith, ap number (sym (fourteen E) ∙ e ∙ fifteen E))),
    );
    replies = λ E. (fourteen E, fifteen E);
    first_row = held first (first_of (collision s two) first);
    second_row = held second (second_of (collision s two) second);
  }

pub equal_leaves_first : EqualLeavesFirst
equal_leaves_first s two first second = reordered s two first second
