-- What extraction replies and leaves, and what is claimed of it.
pub mod Extraction
pub mod Statements
