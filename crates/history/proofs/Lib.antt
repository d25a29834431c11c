-- Demand 3 and the law of the book's leaves, with what they are made of.
mod Replies
mod Sets
mod Book
mod Calls
mod Openings
mod Collisions
pub mod Demand3
pub mod Latest
pub mod Uses
