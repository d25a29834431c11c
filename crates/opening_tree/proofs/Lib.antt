-- The proofs of the claims in specs/.
pub mod Worked
