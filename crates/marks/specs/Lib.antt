-- The mark of a push, and the levels that it goes over.
pub mod Marks
