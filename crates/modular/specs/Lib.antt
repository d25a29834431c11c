-- Numbers modulo p: the definitions, what is claimed of a prime, and the prime in use.
pub mod Arithmetic
pub mod Congruence
pub mod Certificate
pub mod PrimeField
pub mod Goldilocks
