-- Laws of marks, and of a level's rows.
pub mod Marks
