-- What it means that a list repeats a number, said by indices: so it does not depend on the order in which the list is gone through.
use Rattle.std.specs.Prelude.{◌≡◌, ◌↔◌, true, List, ℕ, ◌<◌, length, get_or}
use Rattle.repeats.specs.Repeats.{repeats}

-- two different indices of a list with the same number
pub record Twice (xs : List ℕ) : Type 0 where
  pub first : ℕ
  pub second : ℕ
  pub apart : first < second
  pub inside : second < length xs
  pub same : get_or xs first 0 ≡ get_or xs second 0

abbrev pub RepeatClaims : Type 0
RepeatClaims = (xs : List ℕ) → (repeats xs ≡ true) ↔ Twice xs
