-- What a replacement replies and leaves.
pub mod Replacement
