-- Products and powers of lists of numbers.
pub mod Powers
