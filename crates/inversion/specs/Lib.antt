-- The inverse permutation from kept inverses, and what is asked of the constants.
pub mod Kept
