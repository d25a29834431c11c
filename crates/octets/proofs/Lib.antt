-- The laws of numbers as bytes.
pub mod Decimal
pub mod LittleEndian
