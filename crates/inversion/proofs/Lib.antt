-- The laws that the proofs of the inverse permutation's functions cite.
mod Words
mod Blocks
mod Residues
mod Placewise
mod Written
mod Sums
mod Parts
pub mod Kept
mod Rounds
mod Flat
