-- The laws that the proofs of validation cite, what an accepted set is, and what is claimed of the refusals of D.
pub mod Lists
mod Diagonal
pub mod Accepted
pub mod Answers
pub mod AcceptedSets
pub mod Validated
mod Heightened
pub mod Statements
