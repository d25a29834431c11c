-- The tree of a parameter set (Rules 2.2, 4).
pub mod Shapes
pub mod SetTrees
