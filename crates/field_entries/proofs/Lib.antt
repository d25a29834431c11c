-- The laws that the entries' proofs cite, and the proof of what is claimed of products and powers.
mod Operands
pub mod AnyNumbers
