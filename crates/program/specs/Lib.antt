-- The root program.
pub mod Program
