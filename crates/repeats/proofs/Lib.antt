-- Laws of lists in which a number stands twice, of bits, and of the map of bits.
pub mod Members
pub mod Statements
mod Bits
pub mod Notes
