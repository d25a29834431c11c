-- The laws by which the kept values are made and tested.
mod Sums
mod Multiplying
pub mod Inverting
pub mod Tested
