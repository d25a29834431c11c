-- What a push replies and leaves, of a slice of records and of a list of numbers; how its code begins and ends; and that the two are one.
pub mod Pushes
pub mod Listed
pub mod Ends
pub mod Statements
