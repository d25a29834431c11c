-- A set that is not refused, with another height: refusal 5 alone can apply to the outcome, and its places and kept values are the set's.
use mathlib.Core.Path.{◌≡◌, ap, ◌∙◌}
use mathlib.Core.Bool.{true, false}
use mathlib.Core.List.{List}
use Prim.Native.Nat.{ℕ, ◌/◌, ◌≤◌}
use native.Mathlib.Omega.{arith}
use lib.Dec.{eqb}
use lib.ListN.{length, take, length-take}
use lib.Seq.{length-take-le}
use borrow.Author.Tests.{eq-eqb}
use Rattle.refusals.specs.Table.{first_refusal}
use Rattle.refusals.proofs.Table.{refusal_none, first_none}
use Rattle.refusals.proofs.LengthsAndWords.{both_good}
use Rattle.kept.specs.Kept.{padded, kept_of}
use Rattle.parameters.specs.Refusals.{bad_width, bad_node_size, bad_full_rounds, bad_partial_rounds, bad_height, bad_lengths, constant_count, number_refusals, list_refusals, used_refusals, validation_refusals}
use Rattle.parameters.specs.ParameterSet.{prime_of, held, used_diagonal, used_constants, used_inverses, set_refusals}
use Rattle.parameters.specs.declared.ParameterSet.{ParameterSet}
use Rattle.parameters.proofs.Accepted.{lists_numbered, count_fits}
use Rattle.parameters.proofs.Answers.{of_places}
use Rattle.parameters.proofs.AcceptedSets as sets

-- the conditions on t, l, R_F and R_P, which h has no part in
record Four (t l rf rp : ℕ) : Type 0 where
  width : bad_width t ≡ false
  node_size : bad_node_size t l ≡ false
  full_rounds : bad_full_rounds rf ≡ false
  partial_rounds : bad_partial_rounds rp ≡ false

four_of : (t l h rf rp : ℕ) → first_refusal (number_refusals t l h rf rp) ≡ 0 → Four t l rf rp
unfolding number_refusals
four_of t l h rf rp e =
    let r1 = refusal_none 0 (bad_width t) _ e in
    let r2 = refusal_none 1 (bad_node_size t l) _ r1.1 in
    let r3 = refusal_none 2 (bad_full_rounds rf) _ r2.1 in
    let r4 = refusal_none 3 (bad_partial_rounds rp) _ r3.1 in
    record { width = r1.0; node_size = r2.0; full_rounds = r3.0; partial_rounds = r4.0 }

module _ (s : ParameterSet) (none : first_refusal (set_refusals s) ≡ 0) (h : ℕ) where
  abbrev outcome : ℕ
  outcome = first_refusal (validation_refusals (prime_of s) s.width s.node_size h s.full_rounds s.partial_rounds (used_diagonal s) (used_constants s))

  four : Four s.width s.node_size s.full_rounds s.partial_rounds
  four = four_of _ _ _ _ _ (sets.parts s none).0

  pub five : bad_height (s.width / s.node_size) h ≡ true → 5 ≡ outcome
  unfolding first_refusal validation_refusals number_refusals
  five e = simp (four.width, four.node_size, four.full_rounds, four.partial_rounds, e)

  module _ (D : length (used_diagonal s) ≡ s.width) (C : length (used_constants s) ≡ constant_count s.width s.full_rounds s.partial_rounds) where
    lengths : bad_lengths s.width s.full_rounds s.partial_rounds (used_diagonal s) (used_constants s) ≡ false
    unfolding bad_lengths
    lengths = both_good (eqb (length (used_diagonal s)) s.width) (eqb (length (used_constants s)) (constant_count s.width s.full_rounds s.partial_rounds)) (eq-eqb _ _ D) (eq-eqb _ _ C)

    lists : first_refusal (list_refusals (prime_of s) (used_diagonal s) (used_constants s)) ≡ 0
    unfolding used_refusals
    lists = (first_none (list_refusals (prime_of s) (used_diagonal s) (used_constants s)) _ (lists_numbered (prime_of s) _ _) (sets.parts s none).1).0

    pub none_left : bad_height (s.width / s.node_size) h ≡ false → outcome ≡ 0
    unfolding first_refusal validation_refusals number_refusals
    none_left e = simp (four.width, four.node_size, four.full_rounds, four.partial_rounds, e, lengths) lists

-- the used places, held anew
pub record Places (s : ParameterSet) : Type 0 where
  pub diagonal : length (used_diagonal s) ≡ s.width
  pub constants : length (used_constants s) ≡ constant_count s.width s.full_rounds s.partial_rounds
  pub set : (h : ℕ) {E F es : List ℕ} → E ≡ padded 12 (used_diagonal s) → F ≡ padded 208 (used_constants s) → es ≡ padded 12 (used_inverses s)
      → record { width = s.width; node_size = s.node_size; height = h; full_rounds = s.full_rounds; partial_rounds = s.partial_rounds; diagonal = E; constants = F; inverses = es; total_inverse = s.total_inverse }
      ≡ held (prime_of s) s.width s.node_size h s.full_rounds s.partial_rounds (used_diagonal s) (used_constants s)

pub places_of : (s : ParameterSet) → first_refusal (set_refusals s) ≡ 0 → length s.diagonal ≡ 12 → length s.constants ≡ 208 → Places s
unfolding used_diagonal used_constants kept_of
places_of s none long many = record {
  diagonal = length-take-le s.width s.diagonal (omega (arith, sets.width_few s none));
  constants = length-take-le (constant_count s.width s.full_rounds s.partial_rounds) s.constants (omega (arith, count_fits _ _ _ _ _ (sets.numbers s none)));
  set = λ h e f g. of_places (prime_of s) _ _ h _ _ _ _ e f (g ∙ ap (padded 12) (sets.kept s none).inverses) (sets.kept s none).total;
}

-- the used places of a list are at most as many as the numbers say
pub used_few : (n m : ℕ) (xs : List ℕ) {ys : List ℕ} → n ≤ m → ys ≡ take n xs → length ys ≤ m
used_few n m xs h e = omega (arith, ap length e ∙ length-take n xs)
