-- Poseidon2 over any p: layers, rounds, permutation, compression, the inverse, and what is claimed of them.
pub mod Layers
pub mod Rounds
pub mod Compression
pub mod Residues
pub mod Inverse
pub mod Statements
