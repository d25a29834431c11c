-- A product and a power are never refused, so that the number is 0 and the word is written.
use mathlib.Core.Path.{refl}
use Rattle.field_entries.specs.Arithmetic.{product_reply, power_reply}
use Rattle.replies.specs.Replies.{number_of, value_at}
use Rattle.replies.specs.Statements.{AlwaysGiven}

pub always_given : AlwaysGiven
unfolding number_of value_at product_reply power_reply
always_given p a b = (record { number = refl; written = λ old. refl }, record { number = refl; written = λ old. refl })
