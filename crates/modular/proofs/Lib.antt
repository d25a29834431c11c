-- The laws of numbers modulo p, and of the powers and products that code makes step by step.
pub mod Fours
pub mod Undecided
pub mod Words
pub mod Congruence
pub mod Powers
pub mod Seventh
pub mod Bits
mod Generator
mod Pigeonhole
mod Primes
mod PrimitiveRoot
pub mod Ring
pub mod ProductHalves
pub mod PrimeField
pub mod Goldilocks
