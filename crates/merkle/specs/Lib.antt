-- The tree over any compression of a row of k nodes to one (Rules 4, 5, 7.4).
pub mod Lists
pub mod Levels
pub mod Storeless
pub mod Openings
pub mod Above
pub mod Replacement
pub mod Extraction
pub mod Numbering
pub mod Statements
pub mod Marks
