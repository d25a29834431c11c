-- What is claimed of the exchanges.
pub mod Statements
