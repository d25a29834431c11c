-- The laws that the proofs cite, and what is claimed of files.
mod AcceptedFiles
mod Statements
