-- Files as words, and the leaf that is made of them.
pub mod Blob
pub mod Absorption
pub mod Statements
