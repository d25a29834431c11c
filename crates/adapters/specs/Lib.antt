-- The first records of a list of numbers.
pub mod Listed
