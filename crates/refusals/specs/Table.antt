-- Refusals, each a number and a condition (Rules 8). Those of an entry are a list in the order in which it tests them: it answers the
-- first whose condition holds, and if there is none it does its work.
use Rattle.std.specs.Prelude.{Bool, cond, not, List, [], ◌∷◌, ℕ}
use Rattle.modular.specs.Arithmetic.{all_words}

-- A refusal as an entry tests it: its number, and whether its condition holds.
pub record Refusal : Type 0 where
  pub number : ℕ
  pub applies : Bool

abbrev pub refusal : ℕ → Bool → Refusal
refusal n b = record { number = n; applies = b }

-- 12: one of these numbers is not a word (Rules 8.1).
unfoldable pub not_words : ℕ → List ℕ → Refusal
not_words p xs = refusal 12 (not (all_words p xs))

-- The number of the first that applies, and 0 where none does (Rules 8.2).
unfoldable pub first_refusal : List Refusal → ℕ
first_refusal [] = 0
first_refusal (r ∷ rs) = cond r.applies r.number (first_refusal rs)

-- What an entry replies: a refusal's number, or the numbers that are its result (Rules 8.5).
pub data Reply : Type 0 where
  refused : ℕ → Reply
  done : List ℕ → Reply

-- The reply by an entry's refusals: the first that applies, or the result.
unfoldable pub reply : List Refusal → List ℕ → Reply
reply [] result = done result
reply (r ∷ rs) result = cond r.applies (refused r.number) (reply rs result)

-- What a buffer holds after a reply, of what it held and what the work writes: after a refusal it is as it was (Rules 8.3).
unfoldable pub after : Reply → List ℕ → List ℕ → List ℕ
after (refused n) old new = old
after (done result) old new = new
