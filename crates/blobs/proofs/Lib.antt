-- The laws of files as words, and the proof of what is claimed of them.
pub mod Padding
pub mod Apart
pub mod FileWords
pub mod Absorption
pub mod Statements
