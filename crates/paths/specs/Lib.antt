-- What the search for a collision gives.
pub mod Levels
