-- The prime in use (Rules 1.1), as everything above the core names it. A set's own is `prime_of` of the set.
use Rattle.std.specs.Prelude.{ℕ}
use Rattle.modular.specs.Goldilocks.{p, bytes_in_word, bits_in_prime}

abbrev pub prime : ℕ
prime = p

-- How many bytes a word of it takes (Rules 7.8).
abbrev pub word_bytes : ℕ
word_bytes = bytes_in_word

-- How many bits it has itself (Rules 7.12).
abbrev pub prime_bits : ℕ
prime_bits = bits_in_prime
