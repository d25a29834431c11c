-- The laws over any p that the proofs of the layers, the rounds and the permutation cite.
pub mod Each
pub mod Lists
pub mod Halves
pub mod External
pub mod Sums
pub mod Round
pub mod Turns
pub mod Slices
pub mod Loads
