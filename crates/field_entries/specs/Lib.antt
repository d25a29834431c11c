-- What each entry of the field replies, and what is claimed of products and powers.
pub mod Arithmetic
pub mod Statements
