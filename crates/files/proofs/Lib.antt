-- The laws that the proofs cite.
mod MessageBytes
mod MessageBlocks
