-- What the path's functions keep, and the laws of the search for a collision.
pub mod Verdict
mod Alike
mod Rows
mod Search
