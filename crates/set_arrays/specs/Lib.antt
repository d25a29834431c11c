-- Sets as arrays of numbers, and what is claimed of them.
pub mod Arrays
pub mod Statements
