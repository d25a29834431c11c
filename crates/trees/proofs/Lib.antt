-- The shape of a validated set, and the laws that the functions' proofs cite.
pub mod Shapes
pub mod SetTrees
pub mod Lists
pub mod Counts
pub mod Rows
mod Filling
pub mod Ascent
mod Siblings
mod Climb
