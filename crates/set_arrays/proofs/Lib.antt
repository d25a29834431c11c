-- Arrays that are written from their beginning on, and sets read from them.
mod Begun
pub mod Statements
