-- What each entry of the permutation replies and leaves, and what is claimed of them together.
pub mod Permutation
pub mod Statements
