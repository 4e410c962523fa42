-- The laws that the proofs cite.
pub mod Spreading
pub mod Settling
