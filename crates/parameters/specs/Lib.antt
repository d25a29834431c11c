-- The parameter set, the refusals that turn one down, and what is claimed of those of D.
pub mod ParameterSet
pub mod Refusals
pub mod Statements
