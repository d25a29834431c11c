-- The prime in use.
pub mod Prime
