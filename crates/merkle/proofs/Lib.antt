-- The laws of the tree over any compression.
pub mod Lists
pub mod Members
pub mod Levels
pub mod Storeless
pub mod Openings
pub mod Above
pub mod Replacement
pub mod Extraction
pub mod Numbering
pub mod Nodes
pub mod Settled
pub mod Rising
pub mod Levelwise
pub mod Statements
pub mod Marking
pub mod Marks
