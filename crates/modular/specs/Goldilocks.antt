-- The prime in use, with the numbers of its certificate (Rules 1.1, 1.7), the bytes that a word of it takes (Rules 7.8) and its size in bits
-- (Rules 7.12).
use Rattle.std.specs.Prelude.{List, [], ◌∷◌, ℕ}

-- 2 ^ 64 - 2 ^ 32 + 1
abbrev pub p : ℕ
p = 18446744069414584321

abbrev pub primitive_root : ℕ
primitive_root = 7

-- the primes of p - 1, which is 2 ^ 32 * 3 * 5 * 17 * 257 * 65537
abbrev pub factors : List ℕ
factors = 2 ∷ 3 ∷ 5 ∷ 17 ∷ 257 ∷ 65537 ∷ []

-- the power that the seventh root is (Rules 7.1)
abbrev pub root_exponent : ℕ
root_exponent = 10540996611094048183

-- the bytes of a file that make a word
abbrev pub bytes_in_word : ℕ
bytes_in_word = 7

-- the bits that the prime itself has
abbrev pub bits_in_prime : ℕ
bits_in_prime = 64
