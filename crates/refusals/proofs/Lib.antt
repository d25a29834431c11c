-- The laws of replies, of refusals that end in lengths, a place and words, and of their order.
pub mod Table
pub mod Answers
pub mod LengthsAndWords
pub mod LengthsPlacesAndWords
pub mod Order
