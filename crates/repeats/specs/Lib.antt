-- Lists in which a number stands twice, and the map of bits by which one is found.
pub mod Repeats
pub mod Maps
pub mod Statements
