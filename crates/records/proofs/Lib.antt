-- The laws of records, and of tests.
mod Both
pub mod Changes
pub mod Listed
