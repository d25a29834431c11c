-- The words that are drawn from the register's new bits (Rules 7.13, 7.14), for any p and any number of bits a number.
use Rattle.std.specs.Prelude.{cond, List, [], ◌∷◌, ℕ, zero, suc, ◌+◌, ◌*◌, ◌/◌, ◌^◌, eqb, length, take, drop}
use Rattle.modular.specs.Arithmetic.{is_word}
use Rattle.grain.specs.Register.{register, new_bits}

-- The kept bits: of each pair the second where the first is one. A bit that has no other to make a pair gives none.
unfoldable pub kept : List ℕ → List ℕ
kept [] = []
kept (a ∷ []) = []
kept (a ∷ b ∷ bits) = cond (eqb a 1) (b ∷ kept bits) (kept bits)

-- the number of some bits, the highest first
unfoldable pub number_of : List ℕ → ℕ
number_of [] = 0
number_of (b ∷ bits) = b * 2 ^ length bits + number_of bits

-- the first n numbers of a list of bits, of `size` bits each
unfoldable pub numbers_of : ℕ → ℕ → List ℕ → List ℕ
numbers_of size zero bits = []
numbers_of size (suc n) bits = number_of (take size bits) ∷ numbers_of size n (drop size bits)

-- all numbers that are complete
unfoldable pub complete_numbers : ℕ → List ℕ → List ℕ
complete_numbers size bits = numbers_of size (length bits / size) bits

-- the numbers that are below p: the others are dropped
unfoldable pub words_among : ℕ → List ℕ → List ℕ
words_among p [] = []
words_among p (n ∷ numbers) = cond (is_word p n) (n ∷ words_among p numbers) (words_among p numbers)

-- The words that are drawn with so many steps, the first 160 among them, whose new bits are thrown away.
unfoldable pub drawn : ℕ → ℕ → ℕ → ℕ → ℕ → ℕ → List ℕ
drawn p size t rf rp steps = words_among p (complete_numbers size (kept (drop 160 (new_bits steps (register size t rf rp)))))
