-- How the blocks of the fast path are read as lists of numbers, and sums on halves of numbers.
pub mod Blocks
pub mod Halves
