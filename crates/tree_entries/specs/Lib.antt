-- What each entry of the tree replies and leaves.
pub mod Trees
