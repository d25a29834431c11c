-- What the measured functions require and give.
pub mod Measured
pub mod Pushed
