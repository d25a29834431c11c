-- That the two passes are the push, of a slice of records and of a list of numbers.
mod Early
mod Writing
mod Passes
mod Course
mod Listed
pub mod Statements
