-- What is replied to a file, and what is claimed of files under a set.
pub mod Files
pub mod Statements
