-- What the field's entries reply, for any numbers (Rules 1, 7.1, 8.8).
use Rattle.std.specs.Prelude.{[], ◌∷◌, ℕ, suc, ◌%◌, eqb}
use Rattle.modular.specs.Arithmetic.{add, sub, mul, pow, inverse, seventh_root}
use Rattle.refusals.specs.Table.{Reply, done, reply, refusal, not_words}
use Rattle.refusals.specs.Answers.{Answer, reply_by}

-- The reply of an entry whose result is one number (Rules 8.5).
abbrev pub reply_of : Answer ℕ → Reply
reply_of = reply_by (λ word. word ∷ [])

unfoldable pub sum_reply : ℕ → ℕ → ℕ → Reply
sum_reply p a b = reply (not_words p (a ∷ b ∷ []) ∷ []) (add p a b ∷ [])

unfoldable pub difference_reply : ℕ → ℕ → ℕ → Reply
difference_reply p a b = reply (not_words p (a ∷ b ∷ []) ∷ []) (sub p a b ∷ [])

-- Any two numbers have a product, and any base a power with any exponent: the reply is always the word, and nothing is refused (Rules 1.8).
unfoldable pub product_reply : ℕ → ℕ → ℕ → Reply
product_reply p a b = done (mul p a b ∷ [])

unfoldable pub power_reply : ℕ → ℕ → ℕ → Reply
power_reply p a e = done (pow p a e ∷ [])

-- The inverse of 0 is refused with 13 (Rules 1.5).
unfoldable pub inverse_reply : ℕ → ℕ → Reply
inverse_reply p x = reply (not_words p (x ∷ []) ∷ refusal 13 (eqb x 0) ∷ []) (inverse p x ∷ [])

unfoldable pub seventh_root_reply : ℕ → ℕ → Reply
seventh_root_reply p y = reply (not_words p (y ∷ []) ∷ []) (seventh_root p y ∷ [])
