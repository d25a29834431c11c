-- The passes that a push makes over its records.
pub mod Passes
