-- What is claimed of `product` and `power`, which take any numbers (Rules 1.8): the reply is always a word, the residues alone decide which,
-- and for words it is what it was when 12 refused all other numbers.
use Rattle.std.specs.Prelude.{◌≡◌, true, false, List, [], ◌∷◌, ℕ, ◌*◌, ◌^◌, ◌%◌, ◌<◌}
use Rattle.modular.specs.Arithmetic.{all_words, mul, pow}
use Rattle.modular.specs.Congruence.{◌≈⟨◌⟩◌}
use Rattle.refusals.specs.Table.{Reply, refused, done, reply, not_words}
use Rattle.field_entries.specs.Arithmetic.{product_reply, power_reply}

-- The reply is a word, the only one that is congruent to n.
pub record IsWordOf (p n : ℕ) (given : Reply) : Type 0 where
  pub word : ℕ
  pub answered : given ≡ done (word ∷ [])
  pub below : word < p
  pub congruent : word ≈⟨ p ⟩ n
  pub only : (other : ℕ) → other < p → other ≈⟨ p ⟩ n → other ≡ word

-- The replies before: the same words, where 12 did not refuse an operand.
abbrev pub former_product : ℕ → ℕ → ℕ → Reply
former_product p a b = reply (not_words p (a ∷ b ∷ []) ∷ []) (mul p a b ∷ [])

abbrev pub former_power : ℕ → ℕ → ℕ → Reply
former_power p a e = reply (not_words p (a ∷ []) ∷ []) (pow p a e ∷ [])

-- A reply is the former one if all operands are words; if not, that one was 12.
pub record AsBefore (p : ℕ) (operands : List ℕ) (former given : Reply) : Type 0 where
  pub words : all_words p operands ≡ true → given ≡ former
  pub others : all_words p operands ≡ false → former ≡ refused 12

-- For any numbers: the word that is meant; the same for numbers with the same residues, where an exponent counts as it is; and the same as
-- before for words.
pub record OfAnyNumbers (p : ℕ) : Type 0 where
  pub product : (a b : ℕ) → IsWordOf p (a * b) (product_reply p a b)
  pub power : (a e : ℕ) → IsWordOf p (a ^ e) (power_reply p a e)
  pub product_by_residues : (a b c d : ℕ) → a ≈⟨ p ⟩ c → b ≈⟨ p ⟩ d → product_reply p a b ≡ product_reply p c d
  pub power_by_residue : (a c e : ℕ) → a ≈⟨ p ⟩ c → power_reply p a e ≡ power_reply p c e
  pub product_as_before : (a b : ℕ) → AsBefore p (a ∷ b ∷ []) (former_product p a b) (product_reply p a b)
  pub power_as_before : (a e : ℕ) → AsBefore p (a ∷ []) (former_power p a e) (power_reply p a e)

-- So it is for every p above 0, prime or not.
abbrev pub AnyNumbers : Type 0
AnyNumbers = (p : ℕ) → 0 < p → OfAnyNumbers p
