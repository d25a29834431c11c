-- What an entry answers, as numbers (Rules 8.6), and what is claimed of products and powers.
pub mod Replies
pub mod Statements
