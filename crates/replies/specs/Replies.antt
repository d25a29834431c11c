-- What an entry answers, for a caller that holds nothing but numbers: one that is returned, and one that a result is written to (Rules 8.6).
use Rattle.std.specs.Prelude.{[], ◌∷◌, ℕ, zero, suc, get_or}
use Rattle.refusals.specs.Table.{Reply, refused, done}

-- The number returned: 0 where the work is done, or the refusal's.
unfoldable pub number_of : Reply → ℕ
number_of (refused n) = n
number_of (done values) = 0

-- A verdict's: 0 is accepted and nothing else is, 255 is rejected.
unfoldable pub verdict_number : Reply → ℕ
verdict_number (refused n) = n
verdict_number (done []) = 255
verdict_number (done (zero ∷ values)) = 255
verdict_number (done (suc n ∷ values)) = 0

-- What the number that value i of a result is written to is afterwards, of what it was: the same unless there is such a value.
unfoldable pub value_at : ℕ → Reply → ℕ → ℕ
value_at i (refused n) old = old
value_at i (done values) old = get_or values i old

-- where the result is one value
abbrev pub value_after : Reply → ℕ → ℕ
value_after = value_at 0
