-- The laws of one record in a pass, and of the levels' numbers.
pub mod Records
pub mod Ranks
