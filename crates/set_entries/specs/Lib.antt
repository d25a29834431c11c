-- The exchange of a part of a set, and what is claimed of it.
pub mod Exchange
pub mod Statements
