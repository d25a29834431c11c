-- The laws that the proofs of the roots cite.
mod Chain
mod Flat
mod Steps
