-- What the answers of code say in the words of the table (Rules 8.5): a refusal its number, and a result the reply that it is.
use Rattle.std.specs.Prelude.{List, ℕ, Result, Ok, Err}
use Rattle.refusals.specs.Table.{Reply, refused, done}
use Rattle.refusals.specs.declared.Refusal.{Refusal}
use Rattle.refusals.specs.declared.Refusal.TheVariants.{BadWidth, BadNodeSize, BadFullRounds, BadPartialRounds, BadHeight, BadListLength, BadListWord, ZeroInDiagonal, SingularDiagonal, BadLength, BadPlace, NotAWord, NoInverse, NotAccepted, EqualLeaves, FileTooLong, RepeatedPlace, BadKeptValues}

-- The number of each refusal, as the table has it (Rules 8.1).
abbrev pub number_of : Refusal → ℕ
number_of BadWidth = 1
number_of BadNodeSize = 2
number_of BadFullRounds = 3
number_of BadPartialRounds = 4
number_of BadHeight = 5
number_of BadListLength = 6
number_of BadListWord = 7
number_of ZeroInDiagonal = 8
number_of SingularDiagonal = 9
number_of BadLength = 10
number_of BadPlace = 11
number_of NotAWord = 12
number_of NoInverse = 13
number_of NotAccepted = 14
number_of EqualLeaves = 15
number_of FileTooLong = 16
number_of RepeatedPlace = 17
number_of BadKeptValues = 18

-- What a test or an entry answers: its result, or why it is refused.
abbrev pub Answer : Type 0 → Type 0
Answer A = Result A Refusal

-- The number of the refusal that a test ends with, and 0 where it passes.
abbrev pub refusal_number : {A : Type 0} → Answer A → ℕ
refusal_number (Ok value) = 0
refusal_number (Err refusal) = number_of refusal

-- The reply that an answer is (Rules 8.5), where `numbers` are those that a result is: none if it is in a buffer.
abbrev pub reply_by : {A : Type 0} → (A → List ℕ) → Answer A → Reply
reply_by numbers (Ok value) = done (numbers value)
reply_by numbers (Err refusal) = refused (number_of refusal)
