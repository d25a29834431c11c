-- What an opening reader gives, and what is copied of it.
pub mod Readers
pub mod Copies
