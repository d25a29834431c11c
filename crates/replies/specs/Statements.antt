-- What is claimed of the numbers that a product and a power are for C (Rules 1.8, 8.6): 0 is returned and the word is written, always.
use Rattle.std.specs.Prelude.{◌≡◌, ℕ}
use Rattle.modular.specs.Arithmetic.{mul, pow}
use Rattle.refusals.specs.Table.{Reply}
use Rattle.field_entries.specs.Arithmetic.{product_reply, power_reply}
use Rattle.replies.specs.Replies.{number_of, value_after}

-- For this reply 0 is returned, and what is written is this word, whatever was there.
pub record Given (r : Reply) (word : ℕ) : Type 0 where
  pub number : number_of r ≡ 0
  pub written : (old : ℕ) → value_after r old ≡ word

-- So it is for the product and the power of any numbers, modulo every p.
abbrev pub AlwaysGiven : Type 0
AlwaysGiven = (p a b : ℕ) → Given (product_reply p a b) (mul p a b) × Given (power_reply p a b) (pow p a b)
