-- The laws of the register and of what is drawn from it, and the proof of what is claimed.
pub mod Steps
pub mod Drawing
pub mod Statements
