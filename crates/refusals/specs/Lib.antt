-- Refusals and what an entry replies.
pub mod Table
pub mod Answers
