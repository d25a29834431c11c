-- The generator's register, the words that are drawn from it, and what is claimed of them.
pub mod Register
pub mod Drawing
pub mod Statements
