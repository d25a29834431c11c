-- What is known of the prime in use: it is above 0 and of 64 bits, a prime of the record with its laws, how many bytes a word of it takes, and
-- how many bits it has.
use Prim.Native.Nat.{◌^◌, ◌<◌, ◌≤◌}
use lib.Dec.{lit<, lit≤}
use Rattle.modular.specs.PrimeField.{PrimeField, PrimeLaws, WordBytes, PrimeBits}
use Rattle.modular.proofs.Goldilocks.{goldilocks, goldilocks_laws}
use Rattle.fields.specs.Prime.{prime, word_bytes, prime_bits}

pub positive : 0 < prime
positive = lit< tt

-- a word is a number of 64 bits
pub prime_fits : prime < 2 ^ 64
prime_fits = lit< tt

pub prime_field : PrimeField prime
prime_field = goldilocks

pub prime_laws : PrimeLaws prime prime_field
unfolding prime_field
prime_laws = goldilocks_laws

pub word_bytes_lem : WordBytes prime word_bytes
word_bytes_lem = record { some = lit< tt; fit = lit≤ tt; most = lit< tt }

-- a number of 64 bits has room for them
pub bytes_few : word_bytes ≤ 7
bytes_few = lit≤ tt

pub prime_bits_lem : PrimeBits prime prime_bits
prime_bits_lem = record { some = lit< tt; fit = lit< tt; least = lit≤ tt }

-- a number of 64 bits has room for a number of so many
pub bits_few : prime_bits ≤ 64
bits_few = lit≤ tt
