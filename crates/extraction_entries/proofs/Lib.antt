-- What holds where nothing is refused, what a verdict says there, the collision that is found, and the replies that 15 before 14 changed.
pub mod AcceptedPairs
mod Verdicts
pub mod Extracted
pub mod Statements
pub mod EqualLeaves
