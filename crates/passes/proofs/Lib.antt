-- The laws of passes over all records.
pub mod Turns
pub mod Tests
pub mod Searching
pub mod Rising
