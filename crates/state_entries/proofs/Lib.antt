-- What holds where nothing is refused, and what is claimed of the entries together.
mod AcceptedStates
pub mod Statements
