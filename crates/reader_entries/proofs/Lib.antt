-- The laws of readings and of copies.
pub mod Readings
pub mod Copying
