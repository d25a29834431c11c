-- The proof of what is claimed of products and powers.
pub mod Statements
