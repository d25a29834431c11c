-- The laws of calls through a set that is handed in, and of a verdict's number.
pub mod Calls
pub mod Statements
