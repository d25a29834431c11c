-- The facts of the prime in use.
pub mod Prime
