-- Each operand is tested by itself: the reply is refusal 12 for one that is no word, else what the refusals below give.
use Rattle.std.proofs.Common.{arith, ◌≡◌, ◌≢◌, ◌<◌, ◌∙◌, ℕ, List, [], ◌∷◌, Bool, true, false, ap, sym, refl}
use Rattle.std.specs.Result.{IsErrAnd}
use Rattle.modular.specs.Arithmetic.{all_words}
use Rattle.modular.proofs.Words.{words_append, words_at}
use Rattle.refusals.specs.Table.{not_words, first_refusal, refused, reply}
use Rattle.refusals.specs.Table.{Refusal as Row}
use Rattle.refusals.specs.Answers.{number_of, Answer, reply_by}
use Rattle.refusals.specs.declared.Refusal.{Refusal}
use Rattle.refusals.proofs.Table.{words_applied, words_passed}
use Rattle.refusals.proofs.Answers.{nonzero, reply_returned}
use Rattle.refusals.proofs.LengthsPlacesAndWords.{twelve, no_twelve, left_not_words, right_not_words}

-- what a test of numbers tells
module _ (p : ℕ) (xs : List ℕ) where
  words : 0 ≡ first_refusal (not_words p xs ∷ []) → all_words p xs ≡ true
  words z = of (all_words p xs) refl
    where
      of : (b : Bool) → all_words p xs ≡ b → all_words p xs ≡ true
      of true h = h
      of false h = let e : ◌≡◌ {A = ℕ} 0 12 = z ∙ twelve p xs h in absurd (omega (arith, e))

  no_words : (n : ℕ) → n ≡ first_refusal (not_words p xs ∷ []) → n ≢ 0 → (n ≡ 12) × (all_words p xs ≡ false)
  no_words n e o = of (all_words p xs) refl
    where
      of : (b : Bool) → all_words p xs ≡ b → (n ≡ 12) × (all_words p xs ≡ false)
      of true h = absurd (o (e ∙ no_twelve p xs h))
      of false h = (e ∙ twelve p xs h, h)

module _ (p a : ℕ) where
  pub operand : 0 ≡ first_refusal (not_words p (a ∷ []) ∷ []) → a < p
  operand z = words_at p (a ∷ []) 0 (words p (a ∷ []) z) (omega arith)

  module _ (refusals : List Row) (result : List ℕ) where
    pub operand_passed : 0 ≡ first_refusal (not_words p (a ∷ []) ∷ []) → reply (not_words p (a ∷ []) ∷ refusals) result ≡ reply refusals result
    operand_passed z = words_passed p (a ∷ []) refusals result (words p (a ∷ []) z)

    pub both_passed : (b : ℕ) → 0 ≡ first_refusal (not_words p (a ∷ []) ∷ []) → 0 ≡ first_refusal (not_words p (b ∷ []) ∷ [])
        → reply (not_words p (a ∷ b ∷ []) ∷ refusals) result ≡ reply refusals result
    both_passed b z w =
        words_passed p (a ∷ b ∷ []) refusals result (words_append p (a ∷ []) (b ∷ []) (words p (a ∷ []) z) (words p (b ∷ []) w))

-- an answer that hands on the test's refusal
module _ {A : Type 0} (numbers : A → List ℕ) (answer : Answer A) (r : Refusal) (p a : ℕ) (refusals : List Row) (result : List ℕ) where
  twelve_returned : (xs : List ℕ) → IsErrAnd answer (λ e. e ≡ r) → number_of r ≡ 12 → all_words p xs ≡ false → reply_by numbers answer ≡ reply (not_words p xs ∷ refusals) result
  twelve_returned xs e n h = reply_returned numbers answer r e ∙ ap refused n ∙ sym (words_applied p xs refusals result h)

  pub operand_returned : IsErrAnd answer (λ e. e ≡ r) → number_of r ≡ first_refusal (not_words p (a ∷ []) ∷ []) → reply_by numbers answer ≡ reply (not_words p (a ∷ []) ∷ refusals) result
  operand_returned e f =
      let n = no_words p (a ∷ []) _ f (nonzero r) in
      twelve_returned (a ∷ []) e n.0 n.1

  pub first_returned : (b : ℕ) → IsErrAnd answer (λ e. e ≡ r) → number_of r ≡ first_refusal (not_words p (a ∷ []) ∷ []) → reply_by numbers answer ≡ reply (not_words p (a ∷ b ∷ []) ∷ refusals) result
  first_returned b e f =
      let n = no_words p (a ∷ []) _ f (nonzero r) in
      twelve_returned (a ∷ b ∷ []) e n.0 (left_not_words p (a ∷ []) (b ∷ []) n.1)

  pub second_returned : (b : ℕ) → IsErrAnd answer (λ e. e ≡ r) → number_of r ≡ first_refusal (not_words p (b ∷ []) ∷ []) → reply_by numbers answer ≡ reply (not_words p (a ∷ b ∷ []) ∷ refusals) result
  second_returned b e f =
      let n = no_words p (b ∷ []) _ f (nonzero r) in
      twelve_returned (a ∷ b ∷ []) e n.0 (right_not_words p (a ∷ []) (b ∷ []) n.1)
