-- The laws on plain numbers that the proofs of the field's functions cite.
mod Wrapping
mod Fractions
