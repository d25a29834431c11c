-- The laws of the layers, the rounds and the permutation.
pub mod Words
pub mod Zeros
pub mod Undo
pub mod Internal
mod Singular
pub mod External
pub mod SumsFirst
pub mod Residues
pub mod Rounds
pub mod Places
