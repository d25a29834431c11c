-- Arithmetic modulo p, for any p (Rules 1.2 to 1.5, 7.1). A number is any natural number; a word is a number below p.
use Rattle.std.specs.Prelude.{Bool, true, cond, ◌&&◌, List, [], ◌∷◌, ℕ, zero, suc, ◌+◌, ◌*◌, ◌-◌, ◌%◌, ◌^◌, ltb, eqb}

-- p and the numbers above it are no words (Rules 1.2).
unfoldable pub is_word : ℕ → ℕ → Bool
is_word p a = ltb a p

unfoldable pub all_words : ℕ → List ℕ → Bool
unfolding is_word
all_words p [] = true
all_words p (a ∷ xs) = is_word p a && all_words p xs

-- Sum, difference and product are those of the integers, modulo p (Rules 1.3).
unfoldable pub add : ℕ → ℕ → ℕ → ℕ
add p a b = (a + b) % p

-- The difference: a and what is wanting from b to p.
unfoldable pub sub : ℕ → ℕ → ℕ → ℕ
sub p a b = (a + (p - b % p)) % p

unfoldable pub mul : ℕ → ℕ → ℕ → ℕ
mul p a b = a * b % p

-- The power, for any exponent. As of natural numbers, the exponent 0 gives 1, for the base 0 too (Rules 1.4).
unfoldable pub pow : ℕ → ℕ → ℕ → ℕ
pow p a e = a ^ e % p

-- The first of the n numbers from i on that the test accepts, and 0 where there is none.
unfoldable pub seek : (ℕ → Bool) → ℕ → ℕ → ℕ
seek test i zero = 0
seek test i (suc n) = cond (test i) i (seek test (suc i) n)

-- The word y with x * y = 1 modulo p (Rules 1.5). 0 has none, and this is 0.
unfoldable pub inverse : ℕ → ℕ → ℕ
inverse p x = seek (λ y. eqb (mul p x y) 1) 0 p

-- The word x with x ^ 7 = y modulo p (Rules 7.1).
unfoldable pub seventh_root : ℕ → ℕ → ℕ
seventh_root p y = seek (λ x. eqb (pow p x 7) y) 0 p
