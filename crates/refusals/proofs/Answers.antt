-- A refusal's number is never 0, which stands for none; and what is returned at the exit of a `?`.
use Rattle.std.proofs.Common.{arith, ◌≡◌, ◌<◌, ℕ, List, ◌++◌, ◌∙◌}
use Rattle.std.specs.Result.{IsErrAnd}
use Rattle.std.proofs.lemmas.Result.{err_from_is_err_and}
use Rattle.refusals.specs.Table.{first_refusal, refused, reply, after}
use Rattle.refusals.specs.Table.{Refusal as Row}
use Rattle.refusals.proofs.Table.{front_answers, refused_equations}
use Rattle.refusals.specs.Answers.{number_of, Answer, refusal_number, reply_by}
use Rattle.refusals.specs.declared.Refusal.{Refusal}
use Rattle.refusals.specs.declared.Refusal.TheVariants.{BadWidth, BadNodeSize, BadFullRounds, BadPartialRounds, BadHeight, BadListLength, BadListWord, ZeroInDiagonal, SingularDiagonal, BadLength, BadPlace, NotAWord, NoInverse, NotAccepted, EqualLeaves, FileTooLong, RepeatedPlace, BadKeptValues}

pub positive : (r : Refusal) → 0 < number_of r
positive BadWidth = omega arith
positive BadNodeSize = omega arith
positive BadFullRounds = omega arith
positive BadPartialRounds = omega arith
positive BadHeight = omega arith
positive BadListLength = omega arith
positive BadListWord = omega arith
positive ZeroInDiagonal = omega arith
positive SingularDiagonal = omega arith
positive BadLength = omega arith
positive BadPlace = omega arith
positive NotAWord = omega arith
positive NoInverse = omega arith
positive NotAccepted = omega arith
positive EqualLeaves = omega arith
positive FileTooLong = omega arith
positive RepeatedPlace = omega arith
positive BadKeptValues = omega arith

pub nonzero : (r : Refusal) → number_of r ≡ 0 → ⊥
nonzero r z = omega (arith, positive r)

-- The exit of a `?` returns the callee's refusal,
pub returned : {A : Type 0} (answer : Answer A) (r : Refusal) → IsErrAnd answer (λ e. e ≡ r) → refusal_number answer ≡ number_of r
returned answer r e = let p = err_from_is_err_and answer e in rw (p.1, p.2)

-- and where this is the first of the refusals in front, it is the first of all.
pub front_returned : {A : Type 0} (answer : Answer A) (r : Refusal) (front more : List Row) → IsErrAnd answer (λ e. e ≡ r) → number_of r ≡ first_refusal front → refusal_number answer ≡ first_refusal (front ++ more)
front_returned answer r front more e f = returned answer r e ∙ front_answers front more f (nonzero r)

-- An entry's two equations at such an exit, for its reply and its buffer.
pub refusal_returned : {A : Type 0} (numbers : A → List ℕ) (answer : Answer A) (r : Refusal) (refusals : List Row) (result old new : List ℕ) → IsErrAnd answer (λ e. e ≡ r) → number_of r ≡ first_refusal refusals
    → (reply_by numbers answer ≡ reply refusals result) × (old ≡ after (reply refusals result) old new)
refusal_returned numbers answer r refusals result old new e f =
    let p = err_from_is_err_and answer e in
    rw (p.1, p.2) (refused_equations refusals result old new (number_of r) f (nonzero r))

-- For its reply alone, where the refusal is not told by the list.
pub reply_returned : {A : Type 0} (numbers : A → List ℕ) (answer : Answer A) (r : Refusal) → IsErrAnd answer (λ e. e ≡ r) → reply_by numbers answer ≡ refused (number_of r)
reply_returned numbers answer r e = let p = err_from_is_err_and answer e in rw (p.1, p.2)
