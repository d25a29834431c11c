-- What the functions presume.
pub mod Within
