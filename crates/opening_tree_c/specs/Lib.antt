-- What the functions for C return and leave (Rules 2.8, 8.6), and what is claimed of a verdict.
pub mod Exports
pub mod Statements
